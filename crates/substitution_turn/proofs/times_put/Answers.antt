use native.Mathlib.Omega.{arith}
use mathlib.Core.Path.{sym, ◌∙◌}
use Rattle.lists.specs.Part.{part}
use Rattle.model.specs.Poly.{block}
use Rattle.shape_words.specs.Lengths.{count-pos}
use Rattle.product.specs.Line.{room-full, room-lens, room-some}
use Rattle.substitution_turn.specs.Turn.{zero-made, other-made}
use Rattle.substitution_turn.proofs.times_put.Goals as goal

pub is_zero-requires : goal.is_zero-requires
is_zero-requires c =
    omega (arith, (room-full c.requires).0, count-pos (room-lens c.requires).0)

pub zero_to-requires : goal.zero_to-requires
zero_to-requires c = room-some c.requires

pub returns-then-is_zero : goal.returns-then-is_zero
returns-then-is_zero c =
    zero-made c.args.limits (block c.args.la
    (part c.args.pa c.args.ea c.args.work.now))
    (block c.args.lb (part c.args.pb c.args.eb c.args.work.now))
    (sym c.is_zero.ensures
    ∙ c.if-is_zero.true) c.zero_to.ensures

pub returns : goal.returns
returns c =
    other-made c.args.limits (block c.args.la
    (part c.args.pa c.args.ea c.args.work.now))
    (block c.args.lb (part c.args.pb c.args.eb c.args.work.now))
    (sym c.is_zero.ensures ∙ c.if-is_zero.false)
    c.product.ensures
