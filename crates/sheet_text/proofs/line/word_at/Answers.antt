use native.Mathlib.Omega.{arith}
use Rattle.sheet_text.specs.Lines.{digit-small, taking-none, taking-small, taking-more, taking_end}
use Rattle.sheet_text.proofs.line.word_at.Goals as goal

pub loop-k-init : goal.loop-k-init
loop-k-init c = taking-none _ _

pub overflow_mul-word : goal.overflow_mul-word
overflow_mul-word c = omega (arith, taking-small c.loop-k.invariant c.loop-k-test.true)

pub overflow_add-word : goal.overflow_add-word
overflow_add-word c =
    omega (
      arith,
      taking-small c.loop-k.invariant c.loop-k-test.true,
      c.digit_of.ensures,
      digit-small c.byte_at.result,
    )

pub loop-k-preserved : goal.loop-k-preserved
loop-k-preserved c = taking-more c.loop-k.invariant c.loop-k-test.true c.byte_at.ensures c.digit_of.ensures

pub returns : goal.returns
returns c = taking_end c.loop-k.invariant c.loop-k-test.false
