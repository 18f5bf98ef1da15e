-- What rests on laws of specs/ (Polynomials).
use Rattle.std.specs.Prelude.{ℕ, zero, suc, ◌≤◌, ◌<◌, ◌≡◌, ltb, length, ℤ}
use Rattle.std.proofs.Common.{arith, ltb-true, ltb-false}
use Rattle.lists.specs.Test.{decide}
use Rattle.lists.specs.Four.{at}
use Rattle.model_recipes.specs.Recipe.{Recipe}
use Rattle.model_recipes.specs.Check.{check_refusal}
use Rattle.laws_full.specs.Made.{itself}
use Rattle.laws_full.specs.Uses.{second-first}
use Rattle.laws_full.specs.Places.{full-step}
use Rattle.laws_full.specs.Counts.{Counts, counts-counted}
use Rattle.laws_full.proofs.Described.{result-bounded}
use Rattle.laws_full.specs.Described.{result-counts}
use Rattle.laws_full.specs.Same.{result-four}
use Rattle.laws_full.specs.Setting.{size, known, lengths, full, step, Takes-a, Takes-b, IsPolynomial}
use Rattle.laws_full.specs.Polynomials.{Described, a-before, a-is, a_polynomial, b-before, b-is, b_polynomial}
use Rattle.laws_full.specs.Polynomials.{in-counts, in_variable, input_described, one-row, operand, result-is}
use Rattle.laws_full.specs.Polynomials.{value_of}

module _ (it : Recipe) (z : (check_refusal it).number ≡ 0) (cs : ℕ → ℕ → ℤ) where
  -- a step, from the operands that it needs
  module _ (p : ℕ) (i : length it.headers ≤ p) (l : p < size it) (of-a : Takes-a it p → (Described it z cs) (step it p).a)
      (of-b : Takes-b it p → (Described it z cs) (step it p).b) where
    pub step_counts_lem : IsPolynomial it p → (w : ℕ) → w < 4 → Counts (full it p w) (at ((value_of it z cs) p).lengths w)
    step_counts_lem o w m =
        let s = step it p in
        let f = full-step (known it) it.steps (length it.headers) (size it) p w i l m in
        let early : Takes-a it p → s.a < p = a-before it i z l in
        rw (f.is, (result-is it z cs p i l of-a of-b))
        (counts-counted
        (result-counts s ((operand it z cs p i l of-a of-b) s.a) ((operand it z cs p i l of-a of-b) s.b) w m _ _ _ s.kind (o.each p itself i)
        (λ t. rw (f.in_the_variable (early t), (a-is it z cs p i l of-a of-b) t) ((in-counts it z cs p i l of-a of-b) t))
        (λ t. rw (f.of_the_first (early t), (a-is it z cs p i l of-a of-b) t) ((of-a t).counts w m))
        (λ t.
        let u : Takes-b it p = rw (f.in_the_variable (early (second-first s _ s.kind t))) at t in
        rw (f.of_the_second (b-before it i z l u), (b-is it z cs p i l of-a of-b) u) ((of-b u).counts w m))))

    pub step_described : IsPolynomial it p → (Described it z cs) p
    step_described o =
        let s = step it p in
        record {
          bounded =
              rw (result-is it z cs p i l of-a of-b)
              (result-bounded s ((operand it z cs p i l of-a of-b) s.a) ((operand it z cs p i l of-a of-b) s.b) (in_variable it z cs p i l
              of-a of-b) s.kind (o.each p itself i) (one-row it z cs p i l of-a of-b)
              (λ t. rw ((a-is it z cs p i l of-a of-b) t) (of-a t).bounded) (λ t. rw ((b-is it z cs p i l of-a of-b) t) (of-b t).bounded));
          counts = step_counts_lem o;
          four =
              rw (result-is it z cs p i l of-a of-b)
              (result-four s ((operand it z cs p i l of-a of-b) s.a) ((operand it z cs p i l of-a of-b) s.b) s.kind (λ t. rw
              ((a-is it z cs p i l of-a of-b) t) (of-a t).four));
        }

  pub below : (n p : ℕ) → p < n → p < size it → IsPolynomial it p → (Described it z cs) p
  below zero p h l o = absurd (omega arith)
  below (suc n) p h l o =
      decide (ltb p (length it.headers))
      (λ t. (input_described it z cs) p (ltb-true _ _ t) l)
      (λ t.
      let i = ltb-false p (length it.headers) t in
      step_described p i l
      (λ u.
      let b = a-before it i z l u in
      below n (step it p).a (omega arith) (omega arith) (a_polynomial it i o u))
      (λ u.
      let b = b-before it i z l u in
      below n (step it p).b (omega arith) (omega arith) (b_polynomial it i o u))
      o)

  pub described : (p : ℕ) → p < size it → IsPolynomial it p → (Described it z cs) p
  described p l = below (suc p) p (omega arith) l
