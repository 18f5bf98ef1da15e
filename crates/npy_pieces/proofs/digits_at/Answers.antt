use native.Mathlib.Omega.{arith}
use Prim.Native.Nat.{◌+◌, ◌*◌}
use mathlib.Core.Path.{refl, sym, ap, ◌∙◌}
use Prim.Native.Nat.{ℕ}
use Rattle.npy_grammar.specs.Reading.{cap}
use Rattle.npy_pieces.specs.Places.{passes, counting_more, counting-stop, counting_end}
use Rattle.npy_pieces.proofs.digits_at.Goals as goal

pub loop-k-init : goal.loop-k-init
loop-k-init c = record { inside = c.requires.0; small = c.requires.1; left = refl }

pub returns-then-not-is_of : goal.returns-then-not-is_of
unfolding passes
returns-then-not-is_of c =
    counting-stop c.args.text.now
    c.loop-k.invariant c.loop-k-test.true
    (sym c.is_of.ensures ∙ c.if-not-is_of.true)

pub overflow_mul-n : goal.overflow_mul-n
overflow_mul-n c = omega (arith, c.loop-k.invariant.small)

pub overflow_add-n : goal.overflow_add-n
overflow_add-n c = omega (arith, c.loop-k.invariant.small, c.less_48.ensures.1)

pub loop-k-preserved : goal.loop-k-preserved
unfolding passes
loop-k-preserved c =
    counting_more c.args.text.now c.loop-k.invariant c.loop-k-test.true
    (sym c.is_of.ensures ∙ c.if-not-is_of.false)
    (c.capped-n.ensures ∙ ap (λ (y : ℕ). cap (10 * c.loop-k.n + y)) c.less_48.ensures.0)

pub returns : goal.returns
returns c = counting_end c.args.text.now c.loop-k.invariant c.loop-k-test.false
