-- The place that is named as going furthest is one that the answer is made from, and none that it is made from goes
-- further.
use Rattle.std.specs.Prelude.{ℕ, zero, suc, ◌+◌, ◌≤◌, ◌<◌, Bool, true, false, ◌&&◌, ◌≡◌, refl, ltb, leb}
use mathlib.Core.List.{List, []}
use Rattle.std.proofs.Common.{sym, ◌∙◌}
use Rattle.std.proofs.Math.Path.{ap}
use native.Mathlib.Omega.{arith}
use Rattle.std.proofs.Math.ListN.{get_or}
use borrow.Author.Tests.{leb-true, leb-false, lt-ltb, le-ltb, ltb-true, ltb-false}
use Rattle.lists.specs.Grow.{grow, grow-at}
use Rattle.lists.specs.Test.{decide, and_left, and_right}
use Rattle.model.specs.declared.Header.{Header}
use Rattle.model_recipes.specs.Steps.{step_of}
use Rattle.model_texts.specs.Trace.{uses_in, step_word, has, limit_at, farther, furthest_next, furthests, furthest}
use Rattle.report_trace.specs.Traced.{many}
use Rattle.report_trace.specs.Laws.{Operand, first, second}
use Rattle.report_trace.specs.Ends.{Ordered}

module _ (known : List Header) (v : ℕ) where
  -- of two places, the one that goes further: as far as the second, and as far as the first where it counts
  farther-second : (counts : Bool) (x y : ℕ) → limit_at known v y ≤ limit_at known v (farther known v counts x y)
  farther-second false x y = omega arith
  farther-second true x y =
      decide (leb (limit_at known v y) (limit_at known v x)) (λ t. rw t (leb-true _ _ t)) (λ t. rw t (omega arith))

  farther-first : (counts : Bool) (x y : ℕ) → counts ≡ true → limit_at known v x ≤ limit_at known v (farther known v counts x y)
  farther-first counts x y e =
      rw e (decide (leb (limit_at known v y) (limit_at known v x)) (λ t. rw t (omega arith))
      (λ t. let l = leb-false (limit_at known v y) (limit_at known v x) t in rw t (omega arith)))

  -- it is one of the two
  farther-either : (P : ℕ → Type 0) (counts : Bool) (x y : ℕ) → (counts ≡ true → P x) → P y → P (farther known v counts x y)
  farther-either P counts x y f q =
      decide counts (λ c. decide (leb (limit_at known v y) (limit_at known v x)) (λ t. rw (c, t) (f c)) (λ t. rw (c, t) q)) (λ c. rw c q)

  module _ (ss : List ℕ) (inputs : ℕ) where
    -- what the place p is made from, through places that have the variable; p itself too
    pub data Made : ℕ → ℕ → Type 0 where
      itself : {p : ℕ} → Made p p
      through : {p x q : ℕ} → inputs ≤ p → has known v p ≡ true → Operand (step_word ss inputs p) x → has known v x ≡ true → Made x q → Made p q

    abbrev counts : ℕ → Bool → ℕ → Bool
    counts p used x = (has known v p && used) && has known v x

    -- the operands' own furthest places, as they were found
    abbrev found : ℕ → ℕ → ℕ
    found p x = get_or (furthests known v ss inputs p) x 0

    found-is : (p x : ℕ) → x < p → found p x ≡ furthest known v ss inputs x
    unfolding furthests
    found-is p x l =
        let z : 0 + x ≡ x = omega arith in
        ap (λ (i : ℕ). get_or (grow p (furthest_next known v ss inputs) []) i 0) (sym z) ∙ grow-at 0 p x (furthest_next known v ss inputs) [] l

    abbrev from_second : ℕ → ℕ
    from_second p = let w = step_word ss inputs p in farther known v (counts p (uses_in w).b (step_of w).b) (found p (step_of w).b) p

    abbrev from_first : ℕ → ℕ
    from_first p = let w = step_word ss inputs p in farther known v (counts p (uses_in w).a (step_of w).a) (found p (step_of w).a) (from_second p)

    furthest-input : (p : ℕ) → p < inputs → furthest known v ss inputs p ≡ p
    unfolding furthest_next
    furthest-input p l = rw (many known v ss inputs p, lt-ltb p inputs l)

    furthest-step : (p : ℕ) → inputs ≤ p → furthest known v ss inputs p ≡ from_first p
    unfolding furthest_next
    furthest-step p l = rw (many known v ss inputs p, le-ltb p inputs l)

    -- what counts
    counts-is : (p : ℕ) (used : Bool) (x : ℕ) → counts p used x ≡ true → (has known v p ≡ true) × ((used ≡ true) × (has known v x ≡ true))
    counts-is p used x e =
        let a = and_left (has known v p && used) (has known v x) e in
        (and_left (has known v p) used a, (and_right (has known v p) used a, and_right (has known v p && used) (has known v x) e))

    module _ {m : ℕ} (o : Ordered ss inputs m) where
      -- ---- it is made from it

      made-through : (p x : ℕ) (used : Bool) → inputs ≤ p → p < m → Operand (step_word ss inputs p) x
          → counts p used x ≡ true → Made x (furthest known v ss inputs x) → Made p (found p x)
      made-through p x used i l w c h =
          let k = counts-is p used x c in
          rw (found-is p x (o.before p x i l w)) (through i k.0 w k.1.1 h)

      made : (n p : ℕ) → p < n → p < m → Made p (furthest known v ss inputs p)
      made zero p h l = absurd (omega arith)
      made (suc n) p h l =
          decide (ltb p inputs)
          (λ t. rw (furthest-input p (ltb-true _ _ t)) itself)
          (λ t.
          let i = ltb-false p inputs t in
          let w = step_word ss inputs p in
          let a : ℕ = (step_of w).a in
          let b : ℕ = (step_of w).b in
          let one : (x : ℕ) (used : Bool) → Operand w x → counts p used x ≡ true → Made p (found p x) =
          λ x used q c. let d = o.before p x i l q in made-through p x used i l q c (made n x (omega arith) (omega arith)) in
          rw (furthest-step p i)
          (farther-either (Made p) (counts p (uses_in w).a a) (found p a) (from_second p)
          (λ c. one a (uses_in w).a (first (counts-is p (uses_in w).a a c).1.0 refl) c)
          (farther-either (Made p) (counts p (uses_in w).b b) (found p b) p
          (λ c. one b (uses_in w).b (second (counts-is p (uses_in w).b b c).1.0 refl) c) itself)))

      pub furthest-made : (p : ℕ) → p < m → Made p (furthest known v ss inputs p)
      furthest-made p l = made (suc p) p (omega arith) l

      -- and what a place is made from stands before it
      made-before : {p q : ℕ} → p < m → Made p q → q ≤ p
      made-before l itself = omega arith
      made-before {p} l (through {x = x} i h w k r) = let d = o.before p x i l w in omega (arith, made-before {p = x} (omega arith) r)

      pub furthest-before : (p : ℕ) → p < m → furthest known v ss inputs p ≤ p
      furthest-before p l = made-before l (furthest-made p l)

      -- ---- nothing goes further

      own-most : (p : ℕ) → limit_at known v p ≤ limit_at known v (furthest known v ss inputs p)
      own-most p =
          decide (ltb p inputs)
          (λ t. rw (furthest-input p (ltb-true _ _ t)) (omega arith))
          (λ t. let w = step_word ss inputs p in
          rw (furthest-step p (ltb-false _ _ t))
          (omega (
            arith,
            farther-second (counts p (uses_in w).b (step_of w).b) (found p (step_of w).b) p,
            farther-second (counts p (uses_in w).a (step_of w).a) (found p (step_of w).a) (from_second p),
          )))

      operand-most : (p x : ℕ) → inputs ≤ p → p < m → has known v p ≡ true → Operand (step_word ss inputs p) x → has known v x ≡ true
          → limit_at known v (furthest known v ss inputs x) ≤ limit_at known v (furthest known v ss inputs p)
      operand-most p x i l h (first u e) k =
          let w = step_word ss inputs p in
          let d = o.before p x i l (first u e) in
          let c : counts p (uses_in w).a (step_of w).a ≡ true = rw (h, u, rw e at k) in
          let f : found p (step_of w).a ≡ furthest known v ss inputs x = ap (found p) (sym e) ∙ found-is p x d in
          rw (furthest-step p i, ← f) (farther-first (counts p (uses_in w).a (step_of w).a) (found p (step_of w).a) (from_second p) c)
      operand-most p x i l h (second u e) k =
          let w = step_word ss inputs p in
          let d = o.before p x i l (second u e) in
          let c : counts p (uses_in w).b (step_of w).b ≡ true = rw (h, u, rw e at k) in
          let f : found p (step_of w).b ≡ furthest known v ss inputs x = ap (found p) (sym e) ∙ found-is p x d in
          rw (furthest-step p i, ← f)
          (omega (
            arith,
            farther-first (counts p (uses_in w).b (step_of w).b) (found p (step_of w).b) p c,
            farther-second (counts p (uses_in w).a (step_of w).a) (found p (step_of w).a) (from_second p),
          ))

      pub furthest-most : {p q : ℕ} → p < m → Made p q → limit_at known v q ≤ limit_at known v (furthest known v ss inputs p)
      furthest-most {p} l itself = own-most p
      furthest-most {p} l (through {x = x} i h w k r) =
          let d = o.before p x i l w in omega (arith, operand-most p x i l h w k, furthest-most {p = x} (omega arith) r)
