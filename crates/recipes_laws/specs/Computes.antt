-- The value of a step is its operation's, of the values of earlier places: what the table of operations says, row by
-- row, where the step's word is right.
use Rattle.std.specs.Prelude.{ℕ, ◌<◌, Bool, true, false, List, ◌≡◌, ltb, leb, get_or}
use Rattle.std.proofs.Math.Bool.{cond}
use Rattle.std.proofs.Math.Path.{refl}
use Rattle.std.proofs.Common.{ap, ◌∙◌, leb-true, leb-false, ltb-true, ltb-false}
use Rattle.lists.specs.Test.{decide}
use Rattle.model_recipes.specs.declared.Step.{Step}
use Rattle.model.specs.Poly.{Poly}
use Rattle.model.specs.Negate.{negated}
use Rattle.model.specs.Add.{combined}
use Rattle.model.specs.Product.{product_poly}
use Rattle.model.specs.Quotient.{quotient_poly}
use Rattle.model.specs.Power.{power_poly}
use Rattle.model.specs.Shifts.{derivative_poly, expansion_poly, shift_down_poly}
use Rattle.model.specs.Substitute.{substitute_poly}
use Rattle.model_exponential.specs.Step.{exponential_poly}
use Rattle.model_recipes.specs.Kinds.{one_like}
use Rattle.model_recipes.specs.Steps.{step_of, rows, uses_of}
use Rattle.model_recipes.specs.Check.{formed}
use Rattle.model_recipes.specs.Reasons.{no_kind, late_a, late_b}
use Rattle.model_recipes.specs.Run.{operations, no_value, value_at, step_value}
use Rattle.recipes_laws.specs.Formed.{formed-right}
use Rattle.recipes_laws.specs.Demand.{Computed}

-- before: the values of the p places before the step w in the edition ed; all: of these and others
module _ (ed w p : ℕ) (before all : List Poly) (f : formed w p ≡ true) (same : (q : ℕ) → q < p → value_at before q ≡ value_at all q) where
  abbrev s : Step
  s = step_of w

  early-a : (uses_of s.kind).a ≡ true → s.a < p
  early-a u = decide (ltb s.a p) (ltb-true _ _) (λ t. absurd (formed-right w p f (late_a u (ltb-false _ _ t))))

  early-b : (uses_of s.kind).b ≡ true → s.b < p
  early-b u = decide (ltb s.b p) (ltb-true _ _) (λ t. absurd (formed-right w p f (late_b u (ltb-false _ _ t))))

  -- the row k of the table of operations
  row : (k : ℕ) → s.kind ≡ k → step_value ed w before ≡ get_or (operations ed s (value_at before s.a) (value_at before s.b)) k no_value
  unfolding step_value
  row k e = rw e

  one : (k : ℕ) (g : Poly → Poly) → s.kind ≡ k → (uses_of k).a ≡ true → g (value_at before s.a) ≡ g (value_at all s.a)
  one k g e u = ap g (same s.a (early-a (rw e u)))

  two : (k : ℕ) (g : Poly → Poly → Poly) → s.kind ≡ k → (uses_of k).a ≡ true → (uses_of k).b ≡ true
      → g (value_at before s.a) (value_at before s.b) ≡ g (value_at all s.a) (value_at all s.b)
  two k g e u v = one k (λ x. g x (value_at before s.b)) e u ∙ ap (g (value_at all s.a)) (same s.b (early-b (rw e v)))

  pub computed : Computed ed s p (value_at all) (step_value ed w before)
  unfolding operations rows
  computed =
      record {
        kinds = decide (leb s.kind 11) (leb-true _ _) (λ t. absurd (formed-right w p f (no_kind (leb-false _ _ t))));
        a_earlier = early-a;
        b_earlier = early-b;
        constants = λ e. row 0 e;
        negates = λ e. row 1 e ∙ one 1 negated e refl;
        adds = λ e. row 2 e ∙ two 2 (combined false) e refl refl;
        subtracts = λ e. row 3 e ∙ two 3 (combined true) e refl refl;
        multiplies = λ e. row 4 e ∙ two 4 product_poly e refl refl;
        divides = λ e. row 5 e ∙ two 5 quotient_poly e refl refl;
        powers = λ e t.
            row 6 e ∙ (ap (λ (b : Bool). cond b (one_like (value_at before s.a)) (power_poly s.n (value_at before s.a))) t
            ∙ one 6 (power_poly s.n) e refl);
        idles = λ e t.
            row 6 e ∙ (ap (λ (b : Bool). cond b (one_like (value_at before s.a)) (power_poly s.n (value_at before s.a))) t
            ∙ one 6 one_like e refl);
        derives = λ e. row 7 e ∙ one 7 (derivative_poly s.variable s.n) e refl;
        expands = λ e. row 8 e ∙ one 8 (expansion_poly s.variable s.n) e refl;
        shifts = λ e. row 9 e ∙ one 9 (shift_down_poly s.variable s.n) e refl;
        substitutes = λ e. row 10 e ∙ two 10 (substitute_poly s.variable) e refl refl;
        exponentials = λ e. row 11 e ∙ one 11 exponential_poly e refl;
      }
