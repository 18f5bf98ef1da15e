-- An operand that a step needs is one that its kind uses, and stands before it.
use Rattle.std.specs.Prelude.{ℕ, ◌≤◌, ◌<◌, true, false, List, ◌≡◌, refl, get_or}
use Rattle.std.proofs.lemmas.Bool.{false≢true}
use Rattle.std.proofs.Common.{arith}
use Rattle.model.specs.declared.Family.TheVariants.{Constant}
use Rattle.model_recipes.specs.declared.Step.{Step}
use Rattle.model_recipes.specs.Steps.{rows, uses_of}
use Rattle.model_recipes.specs.Recipe.{families}
use Rattle.model_texts.specs.Whole.{needs_first, needs_second}
use Rattle.recipes_laws.specs.EachKind.{by_kind}
use Rattle.laws_full.specs.Made.{step_at, Ordered, takes_first, takes_second, Made, itself, by_first, by_second}

module _ (s : Step) where
  pub first_used : (k : ℕ) → needs_first (get_or (families 0 s) k Constant) ≡ true → (uses_of k).a ≡ true
  unfolding needs_first families rows
  first_used =
      by_kind (record {
        k0 = λ h. h;
        k1 = λ h. refl;
        k2 = λ h. refl;
        k3 = λ h. refl;
        k4 = λ h. refl;
        k5 = λ h. refl;
        k6 = λ h. refl;
        k7 = λ h. refl;
        k8 = λ h. refl;
        k9 = λ h. refl;
        k10 = λ h. refl;
        k11 = λ h. refl;
        past = λ k h. absurd (false≢true h);
      })

  pub second_used : (p k : ℕ) → needs_second (get_or (families 0 s) k Constant) p ≡ true → (uses_of k).b ≡ true
  unfolding needs_second families rows
  second_used p =
      by_kind (record {
        k0 = λ h. h;
        k1 = λ h. h;
        k2 = λ h. refl;
        k3 = λ h. refl;
        k4 = λ h. refl;
        k5 = λ h. refl;
        k6 = λ h. h;
        k7 = λ h. h;
        k8 = λ h. h;
        k9 = λ h. h;
        k10 = λ h. refl;
        k11 = λ h. h;
        past = λ k h. absurd (false≢true h);
      })

  -- a second operand comes with a first
  pub second-first : (p k : ℕ) → needs_second (get_or (families 0 s) k Constant) p ≡ true
      → needs_first (get_or (families 0 s) k Constant) ≡ true
  unfolding needs_first needs_second families
  second-first p =
      by_kind (record {
        k0 = λ h. h;
        k1 = λ h. refl;
        k2 = λ h. refl;
        k3 = λ h. refl;
        k4 = λ h. refl;
        k5 = λ h. refl;
        k6 = λ h. absurd (false≢true h);
        k7 = λ h. refl;
        k8 = λ h. refl;
        k9 = λ h. refl;
        k10 = λ h. refl;
        k11 = λ h. refl;
        past = λ k h. h;
      })

module _ {ss : List ℕ} {inputs n : ℕ} (o : Ordered ss inputs n) (fs : List ℕ) (p : ℕ) (i : inputs ≤ p) (l : p < n) where
  pub first-before : takes_first ss inputs fs p ≡ true → (step_at ss inputs p).a < p
  first-before h = o.first p i l (first_used (step_at ss inputs p) _ h)

  pub second-before : takes_second ss inputs fs p ≡ true → (step_at ss inputs p).b < p
  second-before h = o.second p i l (second_used (step_at ss inputs p) _ _ h)

-- what a place is made of stands before it, or is it
pub made-before : {ss : List ℕ} {inputs n : ℕ} → Ordered ss inputs n → (fs : List ℕ) {p q : ℕ} → p < n
    → Made ss inputs fs p q → q ≤ p
made-before o fs l itself = omega arith
made-before o fs {p} l (by_first i t m) =
    let d = first-before o fs p i l t in omega (arith, made-before o fs (let z = d in omega arith) m)
made-before o fs {p} l (by_second i t m) =
    let d = second-before o fs p i l t in omega (arith, made-before o fs (let z = d in omega arith) m)
