-- A step's refusal and document 01's reasons for it: it is refused where there is a reason, by the lowest number, and
-- only there.
use Rattle.std.specs.Prelude.{ℕ, ◌≤◌, Bool, true, false, cond, List, ◌≡◌, ltb, leb, length}
use Rattle.std.proofs.Math.Path.{refl}
use Rattle.std.proofs.Common.{arith, ltb-true, ltb-false, leb-true, leb-false, le-leb}
use Rattle.lists.specs.Test.{and_left, and_right, decide}
use Rattle.model.specs.declared.Header.{Header}
use Rattle.model.specs.declared.Refusal.{Refusal}
use Rattle.model.specs.Header.{limit, stored}
use Rattle.model.specs.Refusals.{refused_at, no_refusal}
use Rattle.model_recipes.specs.Steps.{step_of}
use Rattle.model_recipes.specs.Recipe.{head_at, announced_step}
use Rattle.model_recipes.specs.Check.{ask_at, formed, lowers, step_refusal}
use Rattle.model_recipes.specs.Reasons.{WrongWord, Shifts, StepReason, wrong_word, no_variable, large_n, large_count}
use Rattle.recipes_laws.specs.Formed.{formed-right, formed-wrong}
use Rattle.shape_words.specs.Faults.{not-both}

-- a test of the shifts alone
shift-wrong : {W : Type 0} (w x y : ℕ) → cond (lowers (step_of w)) (ltb x y) true ≡ false → (Shifts w → y ≤ x → W) → W
shift-wrong w x y e f =
    decide (lowers (step_of w))
    (λ t.
    f (record {
      from = leb-true _ _ (and_left (leb 7 (step_of w).kind) (leb (step_of w).kind 9) t);
      to = leb-true _ _ (and_right (leb 7 (step_of w).kind) (leb (step_of w).kind 9) t);
    })
    (ltb-false x y (rw t at e)))
    (λ t. absurd (not-both true refl (rw t at e)))

shift-right : (w x y : ℕ) → cond (lowers (step_of w)) (ltb x y) true ≡ true → Shifts w → y ≤ x → ⊥
shift-right w x y e s l =
    let t : lowers (step_of w) ≡ true = simp (le-leb _ _ s.from, le-leb _ _ s.to) in
    omega (arith, ltb-true x y (rw t at e))

module _ (ed w : ℕ) (known : List Header) where
  abbrev place : ℕ
  place = length known

  abbrev operand : Header
  operand = head_at known (step_of w).a

  -- the refusal r, by the tests in order
  data View : Refusal → Type 0 where
    fine : ((n : ℕ) → StepReason ed w known n → ⊥) → View no_refusal
    wrong : (k : ℕ) → StepReason ed w known k → (k ≡ 0 → ⊥) → ((n : ℕ) → StepReason ed w known n → k ≤ n) → View (refused_at k place)

  pub numbers : {n : ℕ} → StepReason ed w known n → 3 ≤ n
  numbers (wrong_word x) = omega arith
  numbers (no_variable x s l) = omega arith
  numbers (large_n x s l) = omega arith
  numbers (large_count x l) = omega arith

  lowest_7 : WrongWord w place → (n : ℕ) → StepReason ed w known n → 7 ≤ n
  lowest_7 x n (wrong_word y) = omega arith
  lowest_7 x n (no_variable y s l) = absurd (y x)
  lowest_7 x n (large_n y s l) = absurd (y x)
  lowest_7 x n (large_count y l) = absurd (y x)

  module _ (v : Shifts w → operand.vars ≤ (step_of w).variable → ⊥) where
    lowest_4 : (n : ℕ) → StepReason ed w known n → 4 ≤ n
    lowest_4 n (wrong_word y) = omega arith
    lowest_4 n (no_variable y s l) = absurd (v s l)
    lowest_4 n (large_n y s l) = omega arith
    lowest_4 n (large_count y l) = omega arith

    module _ (d : Shifts w → limit operand (step_of w).variable ≤ (step_of w).n → ⊥) where
      lowest_5 : (n : ℕ) → StepReason ed w known n → 5 ≤ n
      lowest_5 n (wrong_word y) = omega arith
      lowest_5 n (no_variable y s l) = absurd (v s l)
      lowest_5 n (large_n y s l) = absurd (d s l)
      lowest_5 n (large_count y l) = omega arith

      none_left : (WrongWord w place → ⊥) → stored (announced_step ed w known) ≤ 4096 → (n : ℕ) → StepReason ed w known n → ⊥
      none_left x m n (wrong_word y) = x y
      none_left x m n (no_variable y s l) = v s l
      none_left x m n (large_n y s l) = d s l
      none_left x m n (large_count y l) = omega arith

  by_tests : (t7 t3 t4 t5 : Bool) → formed w place ≡ t7 → cond (lowers (step_of w)) (ltb (step_of w).variable operand.vars) true ≡ t3
      → cond (lowers (step_of w)) (ltb (step_of w).n (limit operand (step_of w).variable)) true ≡ t4 → leb (stored (announced_step ed w known)) 4096 ≡ t5
      → View (ask_at t7 7 place (ask_at t3 3 place (ask_at t4 4 place (ask_at t5 5 place no_refusal))))
  by_tests false t3 t4 t5 a b c d = let x = formed-wrong w place a in wrong 7 (wrong_word x) (λ z. omega (arith, z)) (lowest_7 x)
  by_tests true false t4 t5 a b c d =
      wrong 3 (shift-wrong w _ _ b (no_variable (formed-right w place a))) (λ z. omega (arith, z)) (λ n r. numbers r)
  by_tests true true false t5 a b c d =
      wrong 4 (shift-wrong w _ _ c (large_n (formed-right w place a))) (λ z. omega (arith, z)) (lowest_4 (shift-right w _ _ b))
  by_tests true true true false a b c d =
      wrong 5 (large_count (formed-right w place a) (leb-false _ _ d)) (λ z. omega (arith, z)) (lowest_5 (shift-right w _ _ b) (shift-right w _ _ c))
  by_tests true true true true a b c d = fine (none_left (shift-right w _ _ b) (shift-right w _ _ c) (formed-right w place a) (leb-true _ _ d))

  view : View (step_refusal ed w known)
  unfolding step_refusal
  view = by_tests _ _ _ _ refl refl refl refl

  -- not refused: there is no reason
  clear-by : {r : Refusal} → View r → r.number ≡ 0 → (n : ℕ) → StepReason ed w known n → ⊥
  clear-by (fine f) e = f
  clear-by (wrong k x h l) e = absurd (h e)

  pub step_clear : (step_refusal ed w known).number ≡ 0 → (n : ℕ) → StepReason ed w known n → ⊥
  step_clear e = clear-by view e

  -- refused: at the step's place, by its lowest reason
  pub record Stopped (r : Refusal) : Type 0 where
    pub at : r.place ≡ place
    pub reason : StepReason ed w known r.number
    pub lowest : (n : ℕ) → StepReason ed w known n → r.number ≤ n
    pub alone : (r.variable ≡ 0) × (r.cause ≡ 0)

  stopped_by : {r : Refusal} → View r → (r.number ≡ 0 → ⊥) → Stopped r
  stopped_by (fine f) e = absurd (e refl)
  stopped_by (wrong k x h l) e = record { at = refl; reason = x; lowest = l; alone = (refl, refl) }

  pub step-stopped : ((step_refusal ed w known).number ≡ 0 → ⊥) → Stopped (step_refusal ed w known)
  step-stopped e = stopped_by view e
