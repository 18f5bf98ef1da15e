-- What rests on laws of specs/ (WholeLaws).
use Prim.Native.Nat.{ℕ, zero, suc, ◌≤◌, ◌<◌}
use Rattle.std.specs.Prelude.{false, List, ◌≡◌, ltb, length, take, ℤ, pos}
use Rattle.std.proofs.Math.Path.{sym, ap}
use Rattle.std.proofs.Common.{◌∙◌, arith}
use Rattle.std.proofs.Math.Seq.{get_or-take}
use borrow.Author.Tests.{ltb-true, ltb-false}
use Rattle.lists.specs.Test.{decide}
use Rattle.lists.specs.Four.{at}
use Rattle.model.specs.Header.{limit}
use Rattle.model.specs.Places.{inside}
use Rattle.model_recipes.specs.Recipe.{Recipe}
use Rattle.model_recipes.specs.Check.{check_refusal}
use Rattle.laws_full.specs.Unlimited.{Value, no_value, value_at, step_result, input_value, unlimited}
use Rattle.laws_full.specs.Limited.{cut_to, limited}
use Rattle.laws_full.specs.Made.{itself, by_first, by_second}
use Rattle.laws_full.specs.Counts.{counts-is}
use Rattle.laws_full.specs.Same.{result-same, outside-zero}
use Rattle.laws_full.proofs.SameLaws.{cut-none}
use Rattle.laws_full.specs.Setting.{size, head, lengths, step, out, Takes-a, Takes-b, IsPolynomial, Clear, Whole}
use Rattle.laws_full.specs.Verdict.{whole_exactly}
use Rattle.laws_full.specs.Chained.{head-input, unlimited-input, limited-input, limited_step_lem}
use Rattle.laws_full.specs.Lacking.{good}
use Rattle.laws_full.proofs.Fits.{out-fits}
use Rattle.laws_full.specs.Polynomials.{a_polynomial, b_polynomial, a-before, b-before, value_of, Described}
use Rattle.laws_full.specs.Polynomials.{operand, in_variable, a-is, b-is, result-is, one-row}
use Rattle.laws_full.proofs.Polynomials.{described}

module _ (it : Recipe) (z : (check_refusal it).number ≡ 0) where
  pub not-out : (p : ℕ) → length it.headers ≤ p → Clear it p → out it p ≡ false
  not-out p i c = decide (out it p) (λ t. absurd (c p itself (record { step = i; out = t }))) (λ t. t)

  module _ (cs : ℕ → ℕ → ℤ) where
    pub fits : (p : ℕ) → p < size it → IsPolynomial it p → Clear it p → (w : ℕ) → w < 4
        → at (value_of it z cs p).lengths w ≤ limit (head it p) w
    unfolding input_value
    fits p l o c w m =
        let g = good it z p w m in
        decide (ltb p (length it.headers))
        (λ t. rw (unlimited-input it cs p (ltb-true _ _ t), ← head-input it p (ltb-true _ _ t)) g.fit)
        (λ t.
        let f = (out-fits it z p l (not-out p (ltb-false _ _ t) c) w m).most in
        let e = counts-is ((described it z cs p l o).counts w m) (omega (arith, g.most)) in
        omega arith)

    -- with no limits anywhere nothing lies outside the limits
    pub nothing-outside : (p : ℕ) → p < size it → Whole it p → IsPolynomial it p
        → (k : List ℕ) → inside (head it p).limits k ≡ false → (value_at (unlimited it cs) p).series k ≡ pos 0
    nothing-outside p l e o =
        outside-zero (head it p) (value_of it z cs p) (described it z cs p l o).bounded
        (fits p l o ((whole_exactly it z p l).0 e))

    pub Same : ℕ → Type 0
    Same p = value_at (limited it cs) p ≡ value_of it z cs p

    -- a step, from the operands that it needs
    module _ (p : ℕ) (i : length it.headers ≤ p) (l : p < size it) (o : IsPolynomial it p) (c : Clear it p)
        (same-a : Takes-a it p → Same (step it p).a) (same-b : Takes-b it p → Same (step it p).b) where
      abbrev pub cut_at : ℕ → Value
      cut_at x = value_at (take p (limited it cs)) x

      pub of-a : Takes-a it p → Described it z cs (step it p).a
      of-a u = let b = a-before it i z l u in described it z cs _ (omega arith) (a_polynomial it i o u)

      pub of-b : Takes-b it p → Described it z cs (step it p).b
      of-b u = let b = b-before it i z l u in described it z cs _ (omega arith) (b_polynomial it i o u)

      abbrev pub whole : ℕ → Value
      whole = operand it z cs p i l of-a of-b

      pub a-same : Takes-a it p → cut_at (step it p).a ≡ whole (step it p).a
      unfolding Same
      a-same u =
          get_or-take p (limited it cs) (step it p).a no_value (a-before it i z l u) ∙ same-a u
          ∙ sym (a-is it z cs p i l of-a of-b u)

      pub b-same : Takes-b it p → cut_at (step it p).b ≡ whole (step it p).b
      unfolding Same
      b-same u =
          get_or-take p (limited it cs) (step it p).b no_value (b-before it i z l u) ∙ same-b u
          ∙ sym (b-is it z cs p i l of-a of-b u)

      pub step_same : Same p
      unfolding Same step_result
      step_same =
          let s = step it p in
          let d = described it z cs p l o in
          limited_step_lem it cs p i l
          ∙ ap (cut_to (head it p))
          (result-same s (cut_at s.a) (cut_at s.b) (whole s.a) (whole s.b)
          (in_variable it z cs p i l of-a of-b) s.kind
          (one-row it z cs p i l of-a of-b) a-same b-same
          ∙ sym (result-is it z cs p i l of-a of-b))
          ∙ cut-none (head it p) (value_of it z cs p) d.bounded (fits p l o c) d.four

    pub below : (n p : ℕ) → p < n → p < size it → IsPolynomial it p → Clear it p → Same p
    unfolding Same
    below zero p h l o c = absurd (omega arith)
    below (suc n) p h l o c =
        decide (ltb p (length it.headers))
        (λ t. limited-input it cs p (ltb-true _ _ t) ∙ sym (unlimited-input it cs p (ltb-true _ _ t)))
        (λ t.
        let i = ltb-false p (length it.headers) t in
        step_same p i l o c
        (λ u.
        let b = a-before it i z l u in
        below n _ (omega arith) (omega arith) (a_polynomial it i o u) (λ q m. c q (by_first i u m)))
        (λ u.
        let b = b-before it i z l u in
        below n _ (omega arith) (omega arith) (b_polynomial it i o u) (λ q m. c q (by_second i u m))))

    pub limits-change-nothing : (p : ℕ) → p < size it → Whole it p → IsPolynomial it p
        → value_at (limited it cs) p ≡ value_at (unlimited it cs) p
    unfolding Same
    limits-change-nothing p l e o = below (suc p) p (omega arith) l o ((whole_exactly it z p l).0 e)
