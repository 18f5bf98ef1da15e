-- How the check ends: by sizes, at an input, at a step, or not refused; with all that was passed before.
use Prim.Native.Nat.{ℕ, zero, suc, ◌+◌, ◌<◌}
use Rattle.std.proofs.Math.Bool.{true}
use Rattle.std.specs.Prelude.{false, ◌&&◌, List, [], ◌∷◌, ◌++◌, ◌≡◌, leb, take, get_or}
use Rattle.std.proofs.Math.Path.{refl}
use Rattle.std.proofs.Common.{arith}
use Rattle.std.proofs.Math.ListN.{length}
use borrow.Author.Tests.{leb-false}
use Rattle.lists.specs.Chain.{chain}
use Rattle.lists.specs.Test.{decide}
use Rattle.model.specs.declared.Header.{Header}
use Rattle.model.specs.declared.Refusal.{Refusal}
use Rattle.model.specs.Word.{good_word}
use Rattle.model.specs.Refusals.{refused_at, no_refusal}
use Rattle.model.specs.Gates.{bad_word}
use Rattle.model_recipes.specs.Recipe.{Recipe, announced_step, input_heads}
use Rattle.model_recipes.specs.Check.{or_else, known_edition, right_sizes, step_refusal, inputs_refusal, steps_refusal, check_refusal}
use Rattle.model_recipes.specs.Reasons.{WrongSizes, no_edition, many_inputs, no_step, many_places}
use Rattle.recipes_check.specs.Asks.{or-first, or-next, by-refusal}
use Rattle.recipes_check.specs.Judged.{Sizes, sizes}
use Rattle.shape_words.specs.Faults.{not-both}

-- ---- the inputs, the first at the place p

-- the first n are good
abbrev pub GoodInputs : List ℕ → ℕ → Type 0
GoodInputs hs n = (j : ℕ) → j < n → good_word (get_or hs j 0) ≡ true

data InputsOutcome (p : ℕ) (hs : List ℕ) : Refusal → Type 0 where
  all_good : GoodInputs hs (length hs) → InputsOutcome p hs no_refusal
  one_bad : (i q : ℕ) → q ≡ p + i → i < length hs → GoodInputs hs i → good_word (get_or hs i 0) ≡ false → InputsOutcome p hs (bad_word (get_or hs i 0) q)

good_more : (w : ℕ) (ws : List ℕ) {n : ℕ} → good_word w ≡ true → GoodInputs ws n → GoodInputs (w ∷ ws) (suc n)
good_more w ws g h zero l = g
good_more w ws g h (suc j) l = h j (omega arith)

inputs_later : (w : ℕ) {p : ℕ} {ws : List ℕ} {r : Refusal} → good_word w ≡ true → InputsOutcome (suc p) ws r → InputsOutcome p (w ∷ ws) r
inputs_later w {ws = ws} g (all_good h) = all_good (good_more w ws g h)
inputs_later w {ws = ws} g (one_bad i q e l h b) = one_bad (suc i) q (omega (arith, e)) (omega arith) (good_more w ws g h) b

inputs-outcome : (p : ℕ) (hs : List ℕ) → InputsOutcome p hs (inputs_refusal p hs)
unfolding inputs_refusal
inputs-outcome p [] = all_good (λ j l. absurd (omega arith))
inputs-outcome p (w ∷ ws) =
    decide (good_word w)
    (λ t. rw t (inputs_later w t (inputs-outcome (suc p) ws)))
    (λ t. rw t (one_bad 0 p (omega arith) (omega arith) (λ j l. absurd (omega arith)) t))

-- ---- the steps after the places known

-- the refusal of the step number i in the edition ed
abbrev pub refusal_of : ℕ → List Header → List ℕ → ℕ → Refusal
refusal_of ed known ws i = step_refusal ed (get_or ws i 0) (chain (announced_step ed) known (take i ws))

-- the first n are not refused
abbrev pub ClearSteps : ℕ → List Header → List ℕ → ℕ → Type 0
ClearSteps ed known ws n = (j : ℕ) → j < n → (refusal_of ed known ws j).number ≡ 0

data StepsOutcome (ed : ℕ) (known : List Header) (ws : List ℕ) : Refusal → Type 0 where
  all_clear : ClearSteps ed known ws (length ws) → StepsOutcome ed known ws no_refusal
  one_refused : (i : ℕ) (r : Refusal) → r ≡ refusal_of ed known ws i → i < length ws → ClearSteps ed known ws i → (r.number ≡ 0 → ⊥)
      → StepsOutcome ed known ws r

module _ (ed : ℕ) (known : List Header) (w : ℕ) (ws : List ℕ) where
  abbrev longer : List Header
  longer = known ++ (announced_step ed w known ∷ [])

  clear-more : {n : ℕ} → (step_refusal ed w known).number ≡ 0 → ClearSteps ed longer ws n → ClearSteps ed known (w ∷ ws) (suc n)
  unfolding chain
  clear-more z h zero l = z
  clear-more z h (suc j) l = h j (omega arith)

  steps_later : {r : Refusal} → (step_refusal ed w known).number ≡ 0 → StepsOutcome ed longer ws r → StepsOutcome ed known (w ∷ ws) r
  unfolding chain
  steps_later z (all_clear h) = all_clear (clear-more z h)
  steps_later z (one_refused i r e l h n) = one_refused (suc i) r e (omega arith) (clear-more z h) n

steps-outcome : (ed : ℕ) (known : List Header) (ws : List ℕ) → StepsOutcome ed known ws (steps_refusal ed known ws)
unfolding steps_refusal chain
steps-outcome ed known [] = all_clear (λ j l. absurd (omega arith))
steps-outcome ed known (w ∷ ws) =
    let r = step_refusal ed w known in
    let next = steps_refusal ed (known ++ (announced_step ed w known ∷ [])) ws in
    by-refusal r
    (λ z. rw (or-next r next z) (steps_later ed known w ws z (steps-outcome ed (known ++ (announced_step ed w known ∷ [])) ws)))
    (λ n. rw (or-first {r = r} next n) (one_refused 0 r refl (omega arith) (λ j l. absurd (omega arith)) n))

-- ---- the whole

module _ (it : Recipe) where
  pub sizes-wrong : (known_edition it.edition && right_sizes (length it.headers) (length it.steps)) ≡ false → WrongSizes it
  unfolding right_sizes
  sizes-wrong e =
      decide (leb it.edition 1)
      (λ t0. decide (leb (length it.headers) 16)
      (λ t1. decide (leb 1 (length it.steps))
      (λ t2. decide (leb (length it.headers + length it.steps) 64)
      (λ t3. absurd (not-both true refl (rw (t0, t1, t2, t3) at e)))
      (λ f. many_places (leb-false _ _ f)))
      (λ f. no_step (omega (arith, leb-false 1 (length it.steps) f))))
      (λ f. many_inputs (leb-false _ _ f)))
      (λ f. no_edition (leb-false _ _ f))

  pub data Outcome : Refusal → Type 0 where
    by_sizes : WrongSizes it → Outcome (refused_at 7 64)
    at_input : (i : ℕ) → Sizes it → i < length it.headers → GoodInputs it.headers i → good_word (get_or it.headers i 0) ≡ false
        → Outcome (bad_word (get_or it.headers i 0) i)
    at_step : (i : ℕ) (r : Refusal) → Sizes it → GoodInputs it.headers (length it.headers) → r
        ≡ refusal_of it.edition (input_heads it.headers) it.steps i
        → i < length it.steps → ClearSteps it.edition (input_heads it.headers) it.steps i
        → (r.number ≡ 0 → ⊥) → Outcome r
    not_refused : Sizes it → GoodInputs it.headers (length it.headers)
        → ClearSteps it.edition (input_heads it.headers) it.steps (length it.steps) → Outcome no_refusal

  after-inputs : Sizes it → GoodInputs it.headers (length it.headers) → {r : Refusal}
      → StepsOutcome it.edition (input_heads it.headers) it.steps r → Outcome r
  after-inputs s g (all_clear h) = not_refused s g h
  after-inputs s g (one_refused i r e l h n) = at_step i r s g e l h n

  after-sizes : Sizes it → {r : Refusal} → InputsOutcome 0 it.headers r
      → Outcome (or_else r (steps_refusal it.edition (input_heads it.headers) it.steps))
  after-sizes s (all_good h) =
      rw (or-next no_refusal (steps_refusal it.edition (input_heads it.headers) it.steps) refl)
      (after-inputs s h (steps-outcome it.edition (input_heads it.headers) it.steps))
  after-sizes s (one_bad i q e l h b) =
      let f : q ≡ i = omega (arith, e) in
      rw (f, or-first {r = bad_word (get_or it.headers i 0) i} (steps_refusal it.edition (input_heads it.headers) it.steps) (λ z. omega (arith, z)))
      (at_input i s l h b)

  pub outcome : Outcome (check_refusal it)
  unfolding check_refusal
  outcome =
      decide (known_edition it.edition && right_sizes (length it.headers) (length it.steps))
      (λ t. rw t (after-sizes (sizes it t) (inputs-outcome 0 it.headers)))
      (λ t. rw t (by_sizes (sizes-wrong t)))
