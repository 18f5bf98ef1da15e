use mathlib.Core.Path.{sym, ◌∙◌}
use Rattle.model.specs.Poly.{block}
use Rattle.blocks.specs.Combine.{joining-left, joining-right, one-fits, one_pass, two-passes}
use Rattle.blocks.proofs.join_both.Goals as goal

pub join_lines-requires : goal.join_lines-requires
join_lines-requires c =
    one-fits c.requires
    (sym c.is_same.ensures ∙ c.if-is_same.true)

pub returns-then-is_same : goal.returns-then-is_same
returns-then-is_same c =
    one_pass c.args.minus c.args.n c.args.m c.args.r c.args.a.now c.args.b.now c.requires
    (sym c.is_same.ensures
    ∙ c.if-is_same.true) c.join_lines.ensures

pub join_block-requires : goal.join_block-requires
join_block-requires c =
    joining-left c.requires c.clear.auto.to

pub join_block-requires-2 : goal.join_block-requires-2
join_block-requires-2 c =
    joining-right c.requires (c.join_block.auto.to
    ∙ c.clear.auto.to)

pub returns : goal.returns
returns c =
    two-passes c.args.minus c.args.r (block c.args.n c.args.a.now) (block c.args.m c.args.b.now) c.args.to.now c.requires.full
    c.clear.ensures c.join_block.ensures
    c.join_block-2.ensures
