-- Laws of tests that refuse at a place, and of one refusal after another.
use Rattle.std.specs.Prelude.{ℕ, Bool, true, false, ◌≡◌, refl, eqb}
use Rattle.std.proofs.Common.{sym, ap, ◌∙◌, eq-eqb, ne_eqb, eqb-true}
use Rattle.std.proofs.lemmas.Bool.{eqb-false}
use Rattle.lists.specs.Test.{decide}
use Rattle.model.specs.declared.Refusal.{Refusal}
use Rattle.model.specs.Refusals.{ask_for}
use Rattle.model_recipes.specs.Check.{ask_at, or_else}

pub or-first : {r : Refusal} (next : Refusal) → (r.number ≡ 0 → ⊥) → or_else r next ≡ r
unfolding or_else
or-first {r} next h = simp (ne_eqb r.number 0 h)

pub or-next : (r next : Refusal) → r.number ≡ 0 → or_else r next ≡ next
unfolding or_else
or-next r next h = simp (eq-eqb r.number 0 h)

-- by whether a refusal is none
pub by-refusal : {P : Type 0} (r : Refusal) → (r.number ≡ 0 → P) → ((r.number ≡ 0 → ⊥) → P) → P
by-refusal r f g = decide (eqb r.number 0) (λ t. f (eqb-true r.number 0 t)) (λ t. g (eqb-false r.number 0 t))

-- neither refuses
pub or-none : (r next : Refusal) → (or_else r next).number ≡ 0 → (r.number ≡ 0) × (next.number ≡ 0)
or-none r next e =
    by-refusal r
    (λ z. (z, ap (λ (x : Refusal). x.number) (sym (or-next r next z)) ∙ e))
    (λ n. absurd (n (ap (λ (x : Refusal). x.number) (sym (or-first next n)) ∙ e)))

pub ask-none : (b : Bool) {k : ℕ} (p : ℕ) (next : Refusal) → (k ≡ 0 → ⊥) → (ask_at b k p next).number ≡ 0 → (b ≡ true) × (next.number ≡ 0)
ask-none true p next h e = (refl, e)
ask-none false p next h e = absurd (h e)

pub ask_for-none : (b : Bool) (q next : Refusal) → (q.number ≡ 0 → ⊥) → (ask_for b q next).number ≡ 0 → (b ≡ true) × (next.number ≡ 0)
ask_for-none true q next h e = (refl, e)
ask_for-none false q next h e = absurd (h e)
