-- The place that a report names as the first that leaves terms out: no step that the answer is made of leaves terms out
-- exactly where none is named (64); else the named one does, the answer is made of it, and no step before it that the
-- answer is made of does.
use Rattle.std.specs.Prelude.{ℕ, zero, suc, ◌+◌, ◌≤◌, ◌<◌, min, Bool, true, false, cond, ◌≡◌, refl, ltb, leb, length}
use mathlib.Core.List.{List, []}
use Rattle.std.proofs.Common.{sym, ◌∙◌}
use Rattle.std.proofs.Math.Path.{ap}
use native.Mathlib.Omega.{arith}
use Rattle.std.proofs.Math.ListN.{get_or}
use borrow.Author.Tests.{ltb-true, ltb-false, lt-ltb, le-ltb, leb-true, leb-false}
use Rattle.lists.specs.Grow.{grow, grow-at, length-grow}
use Rattle.lists.specs.Test.{decide}
use Rattle.model.specs.declared.Header.{Header}
use Rattle.model_texts.specs.Whole.{leaves_out, first_next, firsts, first_out, is_whole}
use Rattle.laws_full.specs.Made.{step_at, Ordered, takes_first, takes_second, Made, itself, by_first, by_second}
use Rattle.laws_full.specs.Made.{Drops}
use Rattle.laws_full.specs.Uses.{first-before, second-before, made-before}

module _ (known : List Header) (ss : List ℕ) (inputs : ℕ) (fs : List ℕ) where
  abbrev out : ℕ → ℕ
  out = first_out known ss inputs fs

  abbrev made : ℕ → ℕ → Type 0
  made = Made ss inputs fs

  abbrev drops : ℕ → Type 0
  drops = Drops ss inputs fs known

  length-firsts : (p : ℕ) → length (firsts known ss inputs fs p) ≡ p
  unfolding firsts
  length-firsts p = omega (arith, length-grow p (first_next known ss inputs fs) [])

  -- what was found for an earlier place
  found : (p x : ℕ) → x < p → get_or (firsts known ss inputs fs p) x 64 ≡ out x
  unfolding firsts
  found p x l =
      let z : 0 + x ≡ x = omega arith in
      ap (λ (i : ℕ). get_or (grow p (first_next known ss inputs fs) []) i 64) (sym z)
      ∙ grow-at 64 p x (first_next known ss inputs fs) [] l

  out-input : (p : ℕ) → p < inputs → out p ≡ 64
  unfolding first_next
  out-input p l = rw (length-firsts p, lt-ltb p inputs l)

  module _ {n : ℕ} (o : Ordered ss inputs n) where
    abbrev own : ℕ → ℕ
    own p = cond (leaves_out known fs p) p 64

    abbrev of_first : ℕ → ℕ
    of_first p = cond (takes_first ss inputs fs p) (out (step_at ss inputs p).a) 64

    abbrev of_second : ℕ → ℕ
    of_second p = cond (takes_second ss inputs fs p) (out (step_at ss inputs p).b) 64

    chosen : (p : ℕ) (b : Bool) (x : ℕ) → (b ≡ true → x < p)
        → cond b (get_or (firsts known ss inputs fs p) x 64) 64 ≡ cond b (out x) 64
    chosen p true x h = found p x (h refl)
    chosen p false x h = refl

    out_step : (p : ℕ) → inputs ≤ p → p < n → out p ≡ min (own p) (min (of_first p) (of_second p))
    unfolding first_next
    out_step p i l =
        rw (
          length-firsts p,
          le-ltb p inputs i,
          chosen p (takes_first ss inputs fs p) _
              (first-before o fs p i l),
          chosen p (takes_second ss inputs fs p) _ (second-before o fs p i l),
        )

    -- ---- no step before it

    pub out-most : {p q : ℕ} → p < n → made p q → drops q → out p ≤ q
    out-most {p} l itself d =
        let e : own p ≡ p = rw d.out in
        omega (arith, out_step p d.step l)
    out-most {p} l (by_first {q = q} i t m) d =
        let b = first-before o fs p i l t in
        let e : of_first p ≡ out (step_at ss inputs p).a = rw t in
        let h = out-most {p = (step_at ss inputs p).a} (omega arith) m d in
        omega (arith, out_step p i l)
    out-most {p} l (by_second {q = q} i t m) d =
        let b = second-before o fs p i l t in
        let e : of_second p ≡ out (step_at ss inputs p).b = rw t in
        let h = out-most {p = (step_at ss inputs p).b} (omega arith) m d in
        omega (arith, out_step p i l)

    -- ---- it is one

    -- a step that the place p is made of and that leaves terms out, or none
    data Named (p : ℕ) : ℕ → Type 0 where
      none : Named p 64
      one : {q : ℕ} → q < 64 → made p q → drops q → Named p q

    named-through : {p x r : ℕ} → ((q : ℕ) → made x q → made p q) → Named x r → Named p r
    named-through f none = none
    named-through f (one {q = q} l m d) = one l (f q m) d

    smaller : (P : ℕ → Type 0) (x y : ℕ) → P x → P y → P (min x y)
    smaller P x y a b =
        decide (leb x y)
        (λ t. let e : min x y ≡ x = omega (arith, leb-true x y t) in rw e a)
        (λ t. let e : min x y ≡ y = omega (arith, leb-false x y t) in rw e b)

    module _ (few : n ≤ 64) where
      named : (m p : ℕ) → p < m → p < n → Named p (out p)
      named zero p h l = absurd (omega arith)
      named (suc m) p h l =
          decide (ltb p inputs)
          (λ t. rw (out-input p (ltb-true _ _ t)) none)
          (λ t.
          let i = ltb-false p inputs t in
          rw (out_step p i l)
          (smaller (Named p) (own p) (min (of_first p) (of_second p))
          (decide (leaves_out known fs p) (λ d. rw d (one {q = p} (omega arith) itself (record { step = i; out = d })))
          (λ d. rw d none))
          (smaller (Named p) (of_first p) (of_second p)
          (decide (takes_first ss inputs fs p)
          (λ u.
          let b = first-before o fs p i l u in
          rw u (named-through (λ q. by_first i u) (named m (step_at ss inputs p).a (omega arith) (omega arith))))
          (λ u. rw u none))
          (decide (takes_second ss inputs fs p)
          (λ u.
          let b = second-before o fs p i l u in
          rw u (named-through (λ q. by_second i u) (named m (step_at ss inputs p).b (omega arith) (omega arith))))
          (λ u. rw u none)))))

      named-most : {p r : ℕ} → Named p r → r ≤ 64
      named-most none = omega arith
      named-most (one l m d) = omega arith

      named-one : {p r : ℕ} → Named p r → r < 64 → made p r × drops r
      named-one none h = absurd (omega arith)
      named-one (one l m d) h = (m, d)

      module _ (p : ℕ) (l : p < n) where
        pub out_64 : out p ≤ 64
        out_64 = named-most (named (suc p) p (omega arith) l)

        -- the named place
        pub out-drops : out p < 64 → made p (out p) × drops (out p)
        out-drops = named-one (named (suc p) p (omega arith) l)

        -- none is named exactly where there is none
        pub none_out : out p ≡ 64 → (q : ℕ) → made p q → drops q → ⊥
        none_out e q m d = omega (arith, out-most l m d, made-before o fs l m)

        pub out_none : ((q : ℕ) → made p q → drops q → ⊥) → out p ≡ 64
        out_none h =
            decide (ltb (out p) 64) (λ t. absurd (let d = out-drops (ltb-true _ _ t) in h (out p) d.0 d.1))
            (λ t. omega (arith, ltb-false (out p) 64 t, out_64))

        -- so WHOLE is said exactly where no step leaves terms out
        pub whole-none : is_whole known ss inputs fs p ≡ true → (q : ℕ) → made p q → drops q → ⊥
        unfolding is_whole
        whole-none e = none_out (omega (arith, leb-true 64 (out p) e, out_64))

        pub none-whole : ((q : ℕ) → made p q → drops q → ⊥) → is_whole known ss inputs fs p ≡ true
        unfolding is_whole
        none-whole h = rw (out_none h)
