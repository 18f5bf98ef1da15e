use native.Mathlib.Omega.{arith}
use mathlib.Core.Path.{ap, ◌∙◌}
use Rattle.model.specs.declared.Refusal.{Refusal}
use Rattle.recipes_check.specs.Inputs.{looking-more, looking-stop, looking_end}
use Rattle.recipes_check.proofs.inputs_refusal.Goals as goal

pub returns-then-not-is_good : goal.returns-then-not-is_good
returns-then-not-is_good c =
    record {
      some = λ z. omega (arith, ap (λ (r : Refusal). r.number) c.bad_word.ensures, z);
      holds = c.bad_word.ensures ∙ looking-stop c.loop-i.invariant c.loop-i-test.true c.is_good.ensures c.if-not-is_good.true;
    }

pub loop-i-preserved : goal.loop-i-preserved
loop-i-preserved c = looking-more c.loop-i.invariant c.loop-i-test.true c.is_good.ensures c.if-not-is_good.false

pub returns : goal.returns
returns c = looking_end c.loop-i.invariant c.loop-i-test.false
