-- What shifts take off a limit, on the way back to the place that decides it: the limit of that place is the limit and
-- all that they took off; and the shift that is named for it is one that lowers the limit, by no more than was taken
-- off.
use Prim.Native.Nat.{ℕ, zero, suc, ◌+◌, ◌≤◌, ◌<◌}
use Rattle.std.proofs.Math.Bool.{Bool}
use Rattle.std.specs.Prelude.{true, false, ◌&&◌, cond, List, ◌≡◌, ltb, eqb}
use Rattle.std.proofs.Math.Path.{refl, sym, ap}
use Rattle.std.proofs.Common.{◌∙◌, add-zero}
use native.Mathlib.Omega.{arith}
use borrow.Author.Tests.{ltb-true, ltb-false, eqb-true, lt-ltb, le-ltb}
use Rattle.lists.specs.Test.{decide, and_right}
use Rattle.lists.specs.Walk.{walk}
use Rattle.model.specs.declared.Header.{Header}
use Rattle.model_recipes.specs.Steps.{step_of}
use Rattle.model_texts.specs.Trace.{uses_in, step_word, shifts_in, lowering, has, limit_at, equals, follow, decider, seek, lowerer}
use Rattle.report_trace.specs.Ends.{Ordered, follow-before}

module _ (known : List Header) (v : ℕ) (ss : List ℕ) (inputs : ℕ) where
  -- by how much the step of the place p shifts
  abbrev pub shift : ℕ → ℕ
  shift p = (step_of (step_word ss inputs p)).n

  -- of the first m places: a shift's limit is its operand's, less n
  pub record Lowers (m : ℕ) : Type 0 where
    pub by : (p : ℕ) → inputs ≤ p → p < m → shifts_in v (step_word ss inputs p) ≡ true
        → limit_at known v (step_of (step_word ss inputs p)).a ≡ limit_at known v p + shift p

  -- what the place p takes off, and n places on the way back from it
  unfoldable pub less : ℕ → ℕ
  less p = cond (lowering v ss inputs p) (shift p) 0

  unfoldable pub less_on : ℕ → ℕ → ℕ
  less_on zero p = 0
  less_on (suc n) p = less p + less_on n (follow known v ss inputs p)

  less-input : (p : ℕ) → p < inputs → less p ≡ 0
  unfolding less lowering
  less-input p l = rw (lt-ltb p inputs l)

  less_none : (p : ℕ) → shifts_in v (step_word ss inputs p) ≡ false → less p ≡ 0
  unfolding less lowering
  less_none p e = rw e (decide (ltb p inputs) (λ t. rw t) (λ t. rw t))

  less-shift : (p : ℕ) → inputs ≤ p → shifts_in v (step_word ss inputs p) ≡ true → less p ≡ shift p
  unfolding less lowering
  less-shift p l e =
      rw (le-ltb p inputs l, e)
      (decide (ltb 0 (shift p)) (λ t. rw t) (λ t. let z = ltb-false 0 (shift p) t in rw t (omega (arith, z))))

  stay : (p : ℕ) {x : ℕ} → less p ≡ 0 → x ≡ limit_at known v p → x ≡ limit_at known v p + less p
  stay p z e = omega (arith, z, e)

  -- one step back
  follow-limit : {m : ℕ} → Lowers m → (p : ℕ) → p < m → limit_at known v (follow known v ss inputs p) ≡ limit_at known v p + less p
  unfolding follow
  follow-limit s p l =
      let w = step_word ss inputs p in
      let a : Bool = equals known v p (uses_in w).a (step_of w).a in
      let b : Bool = equals known v p (uses_in w).b (step_of w).b in
      decide (ltb p inputs)
      (λ i. rw i (stay p (less-input p (ltb-true _ _ i)) refl))
      (λ i.
      decide (shifts_in v w)
      (λ z. let h = ltb-false p inputs i in rw (i, z) (s.by p h l z ∙ ap (λ (x : ℕ). limit_at known v p + x) (sym (less-shift p h z))))
      (λ z.
      decide a
      (λ t.
      rw (i, z, t)
      (stay p (less_none p z)
      (eqb-true _ _ (and_right ((uses_in w).a && has known v (step_of w).a)
      (eqb (limit_at known v (step_of w).a) (limit_at known v p)) t))))
      (λ t.
      decide b
      (λ r.
      rw (i, z, t, r)
      (stay p (less_none p z)
      (eqb-true _ _ (and_right ((uses_in w).b && has known v (step_of w).b)
      (eqb (limit_at known v (step_of w).b) (limit_at known v p)) r))))
      (λ r. rw (i, z, t, r) (stay p (less_none p z) refl)))))

  module _ {m : ℕ} (o : Ordered ss inputs m) (s : Lowers m) where
    walk-limit : (n k p : ℕ) → p < m → limit_at known v (walk (λ j. follow known v ss inputs) n k p) ≡ limit_at known v p + less_on n p
    unfolding walk less_on
    walk-limit zero k p l = sym (add-zero (limit_at known v p))
    walk-limit (suc n) k p l =
        let q : ℕ = follow known v ss inputs p in
        let b = follow-before known v ss inputs o p l in
        let e = walk-limit n (suc k) q (omega (arith, b)) in
        let f = follow-limit s p l in
        omega (arith, e, f)

    -- the limit of the place named is the limit and all that shifts took off it
    pub decider-limit : (p : ℕ) → p < m → limit_at known v (decider known v ss inputs p) ≡ limit_at known v p + less_on 64 p
    unfolding decider
    decider-limit p l = walk-limit 64 0 p l

  -- ---- the shift that is named

  seek-stays : (n k p : ℕ) → lowering v ss inputs p ≡ true → walk (λ j. seek known v ss inputs) n k p ≡ p
  unfolding walk
  seek-stays zero k p e = refl
  seek-stays (suc n) k p e = rw e (seek-stays n (suc k) p e)

  sought : (n k p : ℕ) → 0 < less_on n p
      → (lowering v ss inputs (walk (λ j. seek known v ss inputs) n k p) ≡ true) × (shift (walk (λ j. seek known v ss inputs) n k p) ≤ less_on n p)
  unfolding walk less_on less
  sought zero k p h = absurd (omega (arith, h))
  sought (suc n) k p h =
      decide (lowering v ss inputs p)
      (λ e. let f = seek-stays n (suc k) p e in rw (e, f) (e, omega arith))
      (λ e.
      let q : ℕ = follow known v ss inputs p in
      let z : 0 + less_on n q ≡ less_on n q = omega arith in
      let i : 0 < less_on n q = rw z at (rw e at h) in
      let r = sought n (suc k) q i in
      rw e (r.0, omega (arith, r.1)))

  pub lowerer-lowers : (p : ℕ) → 0 < less_on 64 p → (lowering v ss inputs (lowerer known v ss inputs p) ≡ true)
      × (shift (lowerer known v ss inputs p) ≤ less_on 64 p)
  unfolding lowerer
  lowerer-lowers p h = sought 64 0 p h
