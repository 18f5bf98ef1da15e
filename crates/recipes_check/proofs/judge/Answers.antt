use native.Mathlib.Omega.{arith}
use mathlib.Core.Path.{refl, ap}
use Rattle.std.proofs.lemmas.Result.{MatchResult-weaker, err_from_is_err_and}
use Rattle.model.specs.declared.Refusal.{Refusal}
use Rattle.model_recipes.specs.Check.{right_sizes}
use Rattle.recipes_check.specs.Judged.{sizes, judged-sizes, judged-inputs, ready, judged-steps}
use Rattle.recipes_check.proofs.judge.Goals as goal

pub returns-then-not-edition-inputs : goal.returns-then-not-edition-inputs
unfolding right_sizes
returns-then-not-edition-inputs c =
    record {
      some = λ z. omega (arith, ap (λ (r : Refusal). r.number) c.at.ensures, z);
      holds = rw c.at.ensures (judged-sizes _ _ c.if-not-edition-inputs.true);
    }

pub returns-in_err-inputs_refusal : goal.returns-in_err-inputs_refusal
unfolding right_sizes
returns-in_err-inputs_refusal c =
    let p = err_from_is_err_and c.from_residual.result c.from_residual.ensures.1 in
    let q = c.in_err-inputs_refusal.ensures in
    rw (p.1, p.2) (record { some = q.some; holds = judged-inputs _ (sizes _ c.if-not-edition-inputs.false) _ q.holds q.some })

pub steps_refusal-requires : goal.steps_refusal-requires
unfolding right_sizes
steps_refusal-requires c =
    ready _ (sizes _ c.if-not-edition-inputs.false) c.in_ok-inputs_refusal.ensures refl
    c.args.known.now c.note_inputs.new.known c.requires c.note_inputs.ensures

pub returns : goal.returns
unfolding right_sizes
returns c =
    let size = sizes _ c.if-not-edition-inputs.false in
    MatchResult-weaker c.steps_refusal.result c.steps_refusal.ensures
    (λ _ j. judged-steps _ size c.in_ok-inputs_refusal.ensures refl c.requires c.note_inputs.ensures j)
    (λ q j. record {
      some = j.some;
      holds = judged-steps _ size c.in_ok-inputs_refusal.ensures refl c.requires c.note_inputs.ensures j.holds;
    })
