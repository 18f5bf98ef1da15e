-- What rests on laws of specs/ (Exact).
use Rattle.std.specs.Prelude.{Err, ℕ, ◌≡◌, refl}
use Rattle.std.proofs.Common.{sym, ap, ◌∙◌, arith}
use Rattle.model.specs.declared.Refusal.{Refusal}
use Rattle.model_recipes.specs.Recipe.{Recipe}
use Rattle.model_recipes.specs.Check.{check_refusal}
use Rattle.model_recipes.specs.Reasons.{FirstReason}
use Rattle.recipes_check.specs.Asks.{by-refusal}
use Rattle.shape_words.specs.Faults as faults
use Rattle.recipes_laws.specs.Outcome.{Outcome, by_sizes, at_input, at_step, not_refused, outcome}
use Rattle.recipes_laws.specs.Exact.{Exact, accepted-none, first-input, first-sizes, first_one, first_step, no, yes}

module _ (it : Recipe) where
  pub refused-first : {r : Refusal} → Outcome it r → (r.number ≡ 0 → ⊥) → FirstReason it r
  refused-first (by_sizes x) n = (first-sizes it) x
  refused-first (at_input i s l g b) n = (first-input it) s i l g b
  refused-first (at_step i r s g q l c m) n = (first_step it) s g i l c q n
  refused-first (not_refused s g c) n = absurd (n refl)

pub check-exact : (it : Recipe) → Exact it
check-exact it =
    let q = check_refusal it in
    let o = outcome it in
    record {
      accepts = λ f. by-refusal q (λ z. sym (yes it z)) (λ n. absurd (f _ _ (refused-first it o n).reason));
      accepted =
          λ x y z e p n w. by-refusal q (λ a. accepted-none it o a w) (λ b. let c = no it b in let f : ◌≡◌ {A = ℕ} 0 1 = cc in omega (arith, f));
      refuses =
          λ r f. by-refusal q (λ z. absurd (accepted-none it o z f.reason))
          (λ n. sym (no it n) ∙ ap Err (first_one (refused-first it o n) f));
      refused =
          λ r e. by-refusal q (λ a. let c = yes it a in let f : ◌≡◌ {A = ℕ} 0 1 = cc in absurd (omega (arith, f)))
          (λ n. let c = no it n in let f : q ≡ r = cc in rw f at (refused-first it o n));
    }
