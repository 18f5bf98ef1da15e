use mathlib.Core.Path.{sym, ◌∙◌}
use lib.ListN.{set}
use Rattle.blocks.specs.Same.{Same, same-is}
use Rattle.readings_row.specs.Whole.{same_picking, same-written}
use Rattle.readings_row.proofs.pick.Goals as goal

pub pick_whole-requires : goal.pick_whole-requires
pick_whole-requires c =
    let same : Same (set c.args.n c.args.v 1) c.args.c =
    same-is _ _ (sym c.is_same.ensures ∙ c.if-is_same.true) in
    same_picking c.args.n c.args.v c.args.order (same) c.requires

pub returns-then-is_same : goal.returns-then-is_same
returns-then-is_same c =
    let same : Same (set c.args.n c.args.v 1) c.args.c =
    same-is _ _ (sym c.is_same.ensures ∙ c.if-is_same.true) in
    c.pick_whole.ensures
    ∙ same-written c.args.n c.args.v c.args.order (same) c.args.a.now
