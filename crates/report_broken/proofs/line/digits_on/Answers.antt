use native.Mathlib.Omega.{arith}
use mathlib.Core.Path.{sym, ap, ◌∙◌, ◌≡◌}
use Rattle.model_texts.specs.Hex.{is_digit}
use Rattle.model_faults.specs.Broken.{digits_on}
use Rattle.report_say.specs.First.{looking-none, front-more, front-stop, front_end}
use Rattle.report_broken.proofs.line.digits_on.Goals as goal

pub loop-j-init : goal.loop-j-init
loop-j-init c = looking-none _ _ _

pub returns-then-not-is_digit : goal.returns-then-not-is_digit
unfolding digits_on
returns-then-not-is_digit c =
    front-stop c.loop-j.invariant c.loop-j-test.true (sym (ap is_digit
    c.byte_at.ensures) ∙ (sym c.is_digit.ensures ∙ c.if-not-is_digit.true))

pub loop-j-preserved : goal.loop-j-preserved
loop-j-preserved c =
    front-more c.loop-j.invariant c.loop-j-test.true (sym (ap is_digit
    c.byte_at.ensures) ∙ (sym c.is_digit.ensures ∙ c.if-not-is_digit.false))

pub returns : goal.returns
unfolding digits_on
returns c =
    let all : 16 ≡ c.loop-j.j = omega (arith, c.loop-j.invariant.most, c.loop-j-test.false) in
    all ∙ front_end c.loop-j.invariant c.loop-j-test.false
