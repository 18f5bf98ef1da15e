-- A place is a polynomial where no step that it is made of divides or is an exponential.
use Rattle.std.specs.Prelude.{ℕ, ◌≤◌, true, List, ◌≡◌, refl, get_or}
use Rattle.model.specs.declared.Family.TheVariants.{Constant}
use Rattle.model_recipes.specs.declared.Step.{Step}
use Rattle.model_recipes.specs.Recipe.{families}
use Rattle.recipes_laws.specs.EachKind.{by_kind}
use Rattle.laws_full.specs.Made.{is_polynomial, step_at, Made, Polynomial}

-- of all kinds only 5, divide, and 11, exp
not-divided : (s : Step) (k : ℕ) → (k ≡ 5 → ⊥) → (k ≡ 11 → ⊥) → is_polynomial (get_or (families 0 s) k Constant) ≡ true
unfolding is_polynomial families
not-divided s =
    by_kind (record {
      k0 = λ o e. refl;
      k1 = λ o e. refl;
      k2 = λ o e. refl;
      k3 = λ o e. refl;
      k4 = λ o e. refl;
      k5 = λ o e. absurd (o refl);
      k6 = λ o e. refl;
      k7 = λ o e. refl;
      k8 = λ o e. refl;
      k9 = λ o e. refl;
      k10 = λ o e. refl;
      k11 = λ o e. absurd (e refl);
      past = λ k o e. refl;
    })

pub polynomial_undivided : (ss : List ℕ) (inputs : ℕ) (fs : List ℕ) (p : ℕ)
    → ((q : ℕ) → Made ss inputs fs p q → inputs ≤ q → (step_at ss inputs q).kind ≡ 5 → ⊥)
    → ((q : ℕ) → Made ss inputs fs p q → inputs ≤ q → (step_at ss inputs q).kind ≡ 11 → ⊥) → Polynomial ss inputs fs p
polynomial_undivided ss inputs fs p h e =
    record { each = λ q m i. not-divided (step_at ss inputs q) (step_at ss inputs q).kind (h q m i) (e q m i) }
