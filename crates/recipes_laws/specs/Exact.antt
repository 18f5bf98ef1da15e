-- The check refuses exactly for document 01's reasons: it accepts where there is none, and only there; else it answers
-- the first place that has one, with its lowest number and, of a header, its first variable and cause.
use Rattle.std.specs.Prelude.{Err, ℕ, suc, ◌+◌, ◌≤◌, ◌<◌, false, List, ◌≡◌, refl, ltb, eqb, take, get_or}
use Rattle.std.proofs.Common.{sym, ap, ◌∙◌, arith, le_antisymm, length-take-le}
use Rattle.std.proofs.Math.ListN.{length}
use Rattle.std.proofs.lemmas.List.{length-map}
use borrow.Author.Tests.{ltb-true, ltb-false, eqb-true, eqb-false, ne_eqb}
use Rattle.lists.specs.Chain.{chain, length-chain}
use Rattle.lists.specs.Test.{decide}
use Rattle.model.specs.declared.Header.{Header}
use Rattle.model.specs.declared.Refusal.{Refusal}
use Rattle.model.specs.Word.{header_of, good_word}
use Rattle.model.specs.Refusals.{refused_at}
use Rattle.model.specs.Gates.{bad_word}
use Rattle.model_recipes.specs.Recipe.{Recipe, up_to, announced_step, input_heads, announced_places, announced_steps, total, largest}
use Rattle.model_recipes.specs.Check.{check_refusal, check_answer}
use Rattle.model_recipes.specs.Reasons.{WrongSizes, no_edition, many_inputs, no_step, many_places, StepReason, Reason, sizes, input, step, turn, FirstReason}
use Rattle.recipes_check.specs.Asks.{by-refusal}
use Rattle.recipes_check.specs.Answered.{answer_no, answer-yes}
use Rattle.recipes_check.specs.Judged.{Sizes}
use Rattle.shape_words.specs.Faults as faults
use Rattle.shape_words.specs.Faults.{good_none, bad-first}
use Rattle.recipes_laws.specs.StepReasons.{numbers, step_clear, Stopped, step-stopped}
use Rattle.recipes_laws.specs.Outcome.{GoodInputs, ClearSteps, refusal_of, Outcome, by_sizes, at_input, at_step, not_refused, outcome}
use Rattle.model_recipes.specs.Results.{accepting}

turn-place : (p : ℕ) → p < 64 → turn p ≡ suc p
turn-place p l = simp (ne_eqb p 64 (λ e. omega (arith, e)))

turn_one : (p q : ℕ) → turn p ≡ turn q → p ≡ q
turn_one p q e =
    decide (eqb p 64)
    (λ t. decide (eqb q 64) (λ u. eqb-true p 64 t ∙ sym (eqb-true q 64 u)) (λ u. absurd (omega (arith, rw (t, u) at e))))
    (λ t. decide (eqb q 64) (λ u. absurd (omega (arith, rw (t, u) at e))) (λ u. omega (arith, rw (t, u) at e)))

-- there is one first reason
pub first_one : {it : Recipe} {r q : Refusal} → FirstReason it r → FirstReason it q → r ≡ q
first_one {it} {r} {q} a b =
    let t : turn r.place ≡ turn q.place = le_antisymm (a.first _ _ b.reason) (b.first _ _ a.reason) in
    let p : r.place ≡ q.place = turn_one r.place q.place t in
    let n : r.number ≡ q.number = le_antisymm (a.lowest q.number (rw p b.reason)) (b.lowest r.number (rw p at a.reason)) in
    let f : (r.variable ≡ q.variable) × (r.cause ≡ q.cause) =
    decide (eqb r.number 1)
    (λ t. faults.first_one (get_or it.headers r.place 0) (a.fault (eqb-true _ _ t)) (rw (← p) at (b.fault (sym n ∙ eqb-true _ _ t))))
    (λ t.
    let x = a.without_fault (eqb-false r.number 1 t) in
    let y = b.without_fault (λ e. eqb-false r.number 1 t (n ∙ e)) in
    (x.0 ∙ sym y.0, x.1 ∙ sym y.1)) in
    λ i. record { number = n i; place = p i; variable = f.0 i; cause = f.1 i }

module _ (it : Recipe) where
  sizes-right : Sizes it → WrongSizes it → ⊥
  sizes-right s (no_edition l) = omega (arith, s.edition)
  sizes-right s (many_inputs l) = omega (arith, s.few)
  sizes-right s (no_step e) = omega (arith, s.some, e)
  sizes-right s (many_places l) = omega (arith, s.fit)

  -- what the places before the step number i announce
  abbrev pub known : ℕ → List Header
  known i = chain (announced_step it.edition) (input_heads it.headers) (take i it.steps)

  pub length-known : (i : ℕ) → i < length it.steps → length (known i) ≡ length it.headers + i
  length-known i l = omega (
    arith,
    length-chain (announced_step it.edition) (input_heads it.headers) (take i it.steps),
    length-take-le i it.steps (omega arith),
    length-map it.headers header_of,
  )

  -- ---- not refused: no reason

  none : Sizes it → GoodInputs it.headers (length it.headers) → ClearSteps it.edition (input_heads it.headers) it.steps (length it.steps)
      → {p n : ℕ} → Reason it p n → ⊥
  unfolding announced_places
  none s g c (sizes x) = sizes-right s x
  none s g c (input i v d l m b) = good_none _ (g i l) b
  none s g c (step i n l m x) = step_clear it.edition (get_or it.steps i 0) (known i) (c i l) n x

  -- ---- refused by sizes: every reason at 64 is one of sizes

  at_none : {p n : ℕ} → Reason it p n → p ≡ 64 → n ≡ 7
  at_none (sizes x) e = refl
  at_none (input i v d l m b) e = absurd (omega (arith, e))
  at_none (step i n l m x) e = absurd (omega (arith, e))

  pub first-sizes : WrongSizes it → FirstReason it (refused_at 7 64)
  first-sizes x =
      record {
        reason = sizes x;
        first = λ p n y. omega arith;
        lowest = λ n y. omega (arith, at_none y refl);
        fault = λ e. absurd (omega (arith, e));
        without_fault = λ _. (refl, refl);
      }

  -- ---- refused at an input

  positive : {p n : ℕ} → Reason it p n → 1 ≤ n
  positive (sizes x) = omega arith
  positive (input i v d l m b) = omega arith
  positive (step i n l m x) = omega (arith, numbers it.edition (get_or it.steps i 0) (announced_places (up_to it i)) x)

  module _ (s : Sizes it) where
    input-first : (i : ℕ) → GoodInputs it.headers i → i < length it.headers → {p n : ℕ} → Reason it p n → suc i ≤ turn p
    input-first i g l (sizes x) = absurd (sizes-right s x)
    input-first i g l (input j v d k m b) =
        rw (turn-place j m)
        (decide (ltb j i) (λ t. absurd (good_none _ (g j (ltb-true j i t)) b)) (λ t. omega (arith, ltb-false j i t)))
    input-first i g l (step j n k m x) = rw (turn-place (length it.headers + j) m) (omega arith)

    pub first-input : (i : ℕ) → i < length it.headers → GoodInputs it.headers i → good_word (get_or it.headers i 0) ≡ false
        → FirstReason it (bad_word (get_or it.headers i 0) i)
    first-input i l g b =
        let m : i < 64 = omega (arith, s.few) in
        let f = bad-first (get_or it.headers i 0) b in
        record {
          reason = input i _ _ l m f.reason;
          first = λ p n x. rw (turn-place i m) (input-first i g l x);
          lowest = λ n x. positive x;
          fault = λ _. f;
          without_fault = λ n. absurd (n refl);
        }

    -- ---- refused at a step

    module _ (g : GoodInputs it.headers (length it.headers)) (i : ℕ) (l : i < length it.steps)
        (c : ClearSteps it.edition (input_heads it.headers) it.steps i) where
      few : length it.headers + i < 64
      few = omega (arith, s.fit)

      step-first : {p n : ℕ} → Reason it p n → suc (length it.headers + i) ≤ turn p
      unfolding announced_places
      step-first (sizes x) = absurd (sizes-right s x)
      step-first (input j v d k m b) = absurd (good_none _ (g j k) b)
      step-first (step j n k m x) =
          rw (turn-place (length it.headers + j) m)
          (decide (ltb j i) (λ t. absurd (step_clear it.edition (get_or it.steps j 0) (known j) (c j (ltb-true j i t)) n x))
          (λ t. omega (arith, ltb-false j i t)))

      -- a reason at its place is the step's
      its_own : {p n : ℕ} → Reason it p n → p ≡ length it.headers + i → StepReason it.edition (get_or it.steps i 0) (known i) n
      unfolding announced_places
      its_own (sizes x) e = absurd (sizes-right s x)
      its_own (input j v d k m b) e = absurd (good_none _ (g j k) b)
      its_own (step j n k m x) e = let f : j ≡ i = omega (arith, e) in rw f at x

      pub first_step : {r : Refusal} → r ≡ refusal_of it.edition (input_heads it.headers) it.steps i → (r.number ≡ 0 → ⊥) → FirstReason it r
      unfolding announced_places
      first_step {r} e n =
          let t : Stopped it.edition (get_or it.steps i 0) (known i) r =
          rw (← e) at (step-stopped it.edition (get_or it.steps i 0) (known i) (rw e at n)) in
          let at : r.place ≡ length it.headers + i = t.at ∙ length-known i l in
          record {
            reason = rw at (step i r.number l few t.reason);
            first = λ p m x. rw (at, turn-place (length it.headers + i) few) (step-first x);
            lowest = λ m x. t.lowest m (its_own x at);
            fault = λ z. absurd (omega (arith, z, numbers it.edition (get_or it.steps i 0) (known i) t.reason));
            without_fault = λ _. t.alone;
          }

  -- ---- the law

  pub accepted-none : {r : Refusal} → Outcome it r → r.number ≡ 0 → {p n : ℕ} → Reason it p n → ⊥
  accepted-none (by_sizes x) e y = omega (arith, e)
  accepted-none (at_input i s l g b) e y = omega (arith, e)
  accepted-none (at_step i r s g q l c n) e y = n e
  accepted-none (not_refused s g c) e y = none s g c y

  abbrev pub r : Refusal
  r = check_refusal it

  -- the answer, by whether the check's refusal is none
  pub yes : r.number ≡ 0 → accepting (total (announced_steps it)) (largest (announced_steps it)) (total (input_heads it.headers)) ≡ check_answer it
  yes z = answer-yes it {r = r} refl z refl refl refl

  pub no : (r.number ≡ 0 → ⊥) → Err r ≡ check_answer it
  no n = answer_no it {r = r} refl n

-- any words, any number of them
pub record Exact (it : Recipe) : Type 0 where
  -- accepted, with the sums and the maximum of announced counts, where there is no reason
  pub accepts : ((p n : ℕ) → Reason it p n → ⊥)
      → check_answer it ≡ accepting (total (announced_steps it))
      (largest (announced_steps it)) (total (input_heads it.headers))
  -- and only there
  pub accepted : (pool most inputs : ℕ) → check_answer it ≡ accepting pool most inputs → (p n : ℕ) → Reason it p n → ⊥
  -- refused for the first reason
  pub refuses : (r : Refusal) → FirstReason it r → check_answer it ≡ Err r
  -- and for nothing else
  pub refused : (r : Refusal) → check_answer it ≡ Err r → FirstReason it r
