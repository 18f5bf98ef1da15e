-- Document 02, W7: edition 1 differs from edition 0, the source's, in a power of zero alone; there it is one with the
-- operand's limits and lengths of 1.
use Rattle.std.specs.Prelude.{ℕ, ◌<◌, Bool, true, false, ◌&&◌, List, ◌≡◌, refl, eqb}
use Rattle.std.proofs.Math.ListN.{get_or}
use Rattle.std.proofs.Common.{eq-eqb, eqb-true}
use Rattle.lists.specs.Four.{at-four}
use Rattle.lists.specs.Test.{and_left, and_right}
use Rattle.model.specs.declared.Header.{Header}
use Rattle.model_recipes.specs.declared.Step.{Step}
use Rattle.model.specs.declared.Family.{Family}
use Rattle.model.specs.declared.Family.TheVariants.{Constant, One}
use Rattle.model.specs.Header.{limit, len, no_header}
use Rattle.model.specs.Announced.{announced, single}
use Rattle.model.specs.Poly.{Poly}
use Rattle.model_recipes.specs.Kinds.{idle, one_like}
use Rattle.model_recipes.specs.Steps.{step_of}
use Rattle.model_recipes.specs.Recipe.{families, family_of, head_at, announced_step}
use Rattle.model_recipes.specs.Run.{operations, no_value, value_at, step_value}
use Rattle.recipes_laws.specs.EachKind.{by_kind}

-- the step s is a power of zero in edition 1
abbrev pub idle_step : ℕ → Step → Bool
idle_step e s = eqb s.kind 6 && idle e s.n

module _ (e : ℕ) (s : Step) where
  -- a row of the table is edition 0's, but for that of powers where n is zero
  abbrev Differs : ℕ → Type 0
  Differs k = k ≡ 6 → idle e s.n ≡ false

  family-row : (k : ℕ) → Differs k → get_or (families e s) k Constant ≡ get_or (families 0 s) k Constant
  unfolding families
  family-row =
      by_kind {P = λ k. Differs k → get_or (families e s) k Constant ≡ get_or (families 0 s) k Constant}
      (record {
        k0 = λ _. refl;
        k1 = λ _. refl;
        k2 = λ _. refl;
        k3 = λ _. refl;
        k4 = λ _. refl;
        k5 = λ _. refl;
        k6 = λ f. rw (f refl);
        k7 = λ _. refl;
        k8 = λ _. refl;
        k9 = λ _. refl;
        k10 = λ _. refl;
        k11 = λ _. refl;
        past = λ k _. refl;
      })

  value_row_lem : (a b : Poly) (k : ℕ) → Differs k → get_or (operations e s a b) k no_value ≡ get_or (operations 0 s a b) k no_value
  unfolding operations
  value_row_lem a b =
      by_kind {P = λ k. Differs k → get_or (operations e s a b) k no_value ≡ get_or (operations 0 s a b) k no_value}
      (record {
        k0 = λ _. refl;
        k1 = λ _. refl;
        k2 = λ _. refl;
        k3 = λ _. refl;
        k4 = λ _. refl;
        k5 = λ _. refl;
        k6 = λ f. rw (f refl);
        k7 = λ _. refl;
        k8 = λ _. refl;
        k9 = λ _. refl;
        k10 = λ _. refl;
        k11 = λ _. refl;
        past = λ k _. refl;
      })

  -- every step but a power of zero
  not-idle : idle_step e s ≡ false → Differs s.kind
  not-idle t h = rw (eq-eqb s.kind 6 h) at t

  pub same-family : idle_step e s ≡ false → family_of e s ≡ family_of 0 s
  same-family t = family-row s.kind (not-idle t)

  pub same-value : (a b : Poly) → idle_step e s ≡ false
      → get_or (operations e s a b) s.kind no_value ≡ get_or (operations 0 s a b) s.kind no_value
  same-value a b t = value_row_lem a b s.kind (not-idle t)

  -- a power of zero
  idle-kind : idle_step e s ≡ true → s.kind ≡ 6
  idle-kind t = eqb-true s.kind 6 (and_left (eqb s.kind 6) (idle e s.n) t)

  pub idle-family : idle_step e s ≡ true → family_of e s ≡ One
  unfolding families
  idle-family t = rw (idle-kind t, and_right (eqb s.kind 6) (idle e s.n) t)

  pub idle-value : (a b : Poly) → idle_step e s ≡ true → get_or (operations e s a b) s.kind no_value ≡ one_like a
  unfolding operations
  idle-value a b t = rw (idle-kind t, and_right (eqb s.kind 6) (idle e s.n) t)

-- ---- of a step word, known what the places before it announce, vs their values

pub announced-same : (e w : ℕ) (known : List Header) → idle_step e (step_of w) ≡ false → announced_step e w known ≡ announced_step 0 w known
unfolding announced_step
announced-same e w known t = rw (same-family e (step_of w) t)

pub value_same : (e w : ℕ) (vs : List Poly) → idle_step e (step_of w) ≡ false → step_value e w vs ≡ step_value 0 w vs
unfolding step_value
value_same e w vs t = same-value e (step_of w) (value_at vs (step_of w).a) (value_at vs (step_of w).b) t

pub value-idle : (e w : ℕ) (vs : List Poly) → idle_step e (step_of w) ≡ true → step_value e w vs ≡ one_like (value_at vs (step_of w).a)
unfolding step_value
value-idle e w vs t = idle-value e (step_of w) (value_at vs (step_of w).a) (value_at vs (step_of w).b) t

pub announced-idle : (e w : ℕ) (known : List Header) → idle_step e (step_of w) ≡ true
    → announced_step e w known ≡ announced One (head_at known (step_of w).a) no_header
unfolding announced_step announced
announced-idle e w known t = rw (idle-family e (step_of w) t)

-- the operand's limits, lengths of 1
module _ (h : Header) (k : ℕ) (l : k < 4) where
  pub idle-limit : limit (announced One h no_header) k ≡ limit h k
  unfolding announced single
  idle-limit = at-four (λ k. limit h k) k l

  pub idle-length : len (announced One h no_header) k ≡ 1
  unfolding announced single
  idle-length = at-four (λ k. 1) k l
