-- What the check answers where it accepts: the sums and the maximum of announced counts.
use Rattle.std.specs.Prelude.{Ok, Err, ℕ, List, ◌≡◌, refl}
use Rattle.std.proofs.Common.{ap, ◌∙◌, arith}
use Rattle.model_recipes.specs.Recipe.{Recipe, input_heads, announced_steps, total, largest}
use Rattle.model_recipes.specs.Check.{check_refusal, check_answer}
use Rattle.recipes_check.specs.Asks.{by-refusal}
use Rattle.recipes_check.specs.Answered.{answer_no, answer-yes}
use Rattle.model_recipes.specs.Results.{CheckAnswer, accepting}
use Rattle.model_recipes.specs.declared.Totals.{Totals}

pub record Numbers (it : Recipe) (pool most inputs : ℕ) : Type 0 where
  pub none : (check_refusal it).number ≡ 0
  pub pool_is : total (announced_steps it) ≡ pool
  pub most_is : largest (announced_steps it) ≡ most
  pub inputs_are : total (input_heads it.headers) ≡ inputs

-- what an answer says that a run takes, 0 where it is refused
totals_in : CheckAnswer → Totals
totals_in (Ok t) = t
totals_in (Err r) = record { pool = 0; largest = 0; inputs = 0 }

pub numbers : (it : Recipe) (pool most inputs : ℕ) → check_answer it ≡ accepting pool most inputs → Numbers it pool most inputs
unfolding total totals_in
numbers it pool most inputs e =
    by-refusal (check_refusal it)
    (λ z.
    let y : accepting (total (announced_steps it)) (largest (announced_steps it)) (total (input_heads it.headers)) ≡ check_answer it =
    answer-yes it {r = check_refusal it} refl z refl refl refl in
    let same = y ∙ e in
    record {
      none = z;
      pool_is = ap (λ (a : CheckAnswer). (totals_in a).pool) same;
      most_is = ap (λ (a : CheckAnswer). (totals_in a).largest) same;
      inputs_are = ap (λ (a : CheckAnswer). (totals_in a).inputs) same;
    })
    (λ n. let c = answer_no it {r = check_refusal it} refl n in let f : ◌≡◌ {A = ℕ} 0 1 = cc in absurd (omega (arith, f)))
