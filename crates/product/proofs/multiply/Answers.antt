use native.Mathlib.Omega.{arith}
use mathlib.Core.Path.{refl, ◌∙◌}
use Rattle.product.specs.Chosen.{by_number}
use Rattle.product.specs.Owned.{short_worth, short-room, short-answer, short-out, short_scratch}
use Rattle.product.proofs.multiply.Goals as goal

pub multiply_short-requires : goal.multiply_short-requires
multiply_short-requires c =
    short-room (short_worth _ _ _ _ _ _ c.short_way-w.ensures
    (λ z. c.in_default.not-General (by_number _ z))) refl refl

pub returns : goal.returns
returns c =
    let s = short_worth _ _ _ _ _ _ c.short_way-w.ensures (λ z. c.in_default.not-General (by_number _ z)) in (
      c.multiply_short.ensures.answer ∙ short-answer s (omega (arith, c.ranges.ah)) c.args.out.now
          c.args.scratch.now refl refl,
      (
        c.multiply_short.ensures.written ∙ short-out s c.args.out.now c.args.scratch.now refl refl,
        c.multiply_short.ensures.cleared ∙ short_scratch s c.args.out.now c.args.scratch.now refl refl,
      ),
    )
