-- The sum and the difference of two blocks that sit under the limits l are those of their series there (document 01,
-- port order 3), whichever shortcut is taken: a right operand of stored count 1, a left one, or neither.
use Rattle.std.specs.Prelude.{◌≡◌, refl, Bool, true, false, List, ℕ, ◌^◌, ◌≤◌, eqb, length, ℤ, pos, neg_ℤ, nat_abs, ◌+ℤ◌, ◌-ℤ◌, Float}
use Rattle.std.proofs.Common.{sym, ap, ap₂, ◌∙◌, le_of_eq, le_trans, arith, length-set}
use Rattle.std.proofs.Math.IntN.{+ℤ_idl, +ℤ_idr, +ℤ_comm, neg_ℤ-+ℤ, neg_ℤ-neg_ℤ}
use borrow.Author.Tests.{eqb-true}
use Rattle.lists.specs.Test.{decide}
use Rattle.lists.specs.Table.{table}
use Rattle.lists.specs.Four.{at}
use Rattle.model.specs.Header.{count}
use Rattle.model.specs.Places.{index, inside}
use Rattle.model.specs.Limits.{max_shape}
use Rattle.model.specs.Refusals.{zero_f}
use Rattle.model.specs.Poly.{Block, block, coefficient_at}
use Rattle.model.specs.Negate.{negated_at}
use Rattle.model.specs.Add.{join, join_at, place_joined, first_joined, turned, joined, joined_block}
use Rattle.model_textbook.specs.Textbook.{Series, origin}
use Rattle.laws_whole.specs.Int.{abs_neg}
use Rattle.laws_whole.specs.Whole.{Whole, whole-zero}
use Rattle.laws_whole.specs.Exact.{whole-add, whole_sub, whole_neg}
use Rattle.shape_words.specs.Lengths.{Inside, inside_is}
use Rattle.laws_keeps.specs.Sits.{Sits, max-at, max-left, max-right}
use Rattle.laws_exact.specs.Wholes.{Is, whole-at, stored_at, past-at, table-read, index_read, is_same_lem}
use Rattle.laws_exact.specs.Firsts.{outside-shorter, first-whole, origin-stored, stored-under, only-first, first-changed}

-- x + y, or x - y, of numbers and of series
abbrev pub join_z : Bool → ℤ → ℤ → ℤ
join_z false x y = x +ℤ y
join_z true x y = x -ℤ y

-- ---- numbers

join-none : (minus : Bool) (c : ℤ) → join_z minus c (pos 0) ≡ c
join-none false c = +ℤ_idr c
join-none true c = +ℤ_idr c

-- what a subtraction from a constant turns
turned_z : Bool → ℤ → ℤ
turned_z false z = z
turned_z true z = neg_ℤ z

turned-join : (minus : Bool) (x y : ℤ) → turned_z minus (join_z minus y x) ≡ join_z minus x y
unfolding turned_z
turned-join false x y = +ℤ_comm y x
turned-join true x y = neg_ℤ-+ℤ y (neg_ℤ x) ∙ ap (λ (z : ℤ). neg_ℤ y +ℤ z) (neg_ℤ-neg_ℤ x) ∙ +ℤ_comm (neg_ℤ y) x

abs-turned : (minus : Bool) (z : ℤ) → nat_abs (turned_z minus z) ≡ nat_abs z
unfolding turned_z
abs-turned false z = refl
abs-turned true z = abs_neg z

-- ---- floats

join-whole : (minus : Bool) {x y : Float} {c d : ℤ} → Whole x c → Whole y d → nat_abs (join_z minus c d) ≤ 2 ^ 53 → Whole (join minus x y) (join_z minus c d)
join-whole false p q h = whole-add p q h
join-whole true p q h = whole_sub p q h

-- joined with a coefficient, stored or not
pub join_at_lem : (minus : Bool) {x : Float} {c z : ℤ} (b : Block) (k : List ℕ) → Whole x c → Whole (coefficient_at b k) z
    → nat_abs (join_z minus c z) ≤ 2 ^ 53 → Whole (join_at minus x b k) (join_z minus c z)
unfolding join_at
join_at_lem minus {x} {c} b k p q h =
    decide (inside b.lengths k)
    (λ t. rw t (join-whole minus p (stored_at b k q (inside_is b.lengths k t)) h))
    (λ t. rw (t, past-at b k q t, join-none minus c) p)

-- ---- signs

-- all negated
pub negated-is : {l : List ℕ} {b : Block} {B : Series} (m : ℕ) → m ≡ count b.lengths → Is l b B
    → Is l (block b.lengths (table m (negated_at b.places))) (λ k. neg_ℤ (B k))
negated-is {l} {b} {B} m e w = record {
  at = λ k f i.
      whole-at (block b.lengths (table m (negated_at b.places))) k
      (λ j. rw (table-read b.lengths m (negated_at b.places) k e j) (whole_neg (stored_at b k (w.at k f i) j)))
      (λ t. ap neg_ℤ (past-at b k (w.at k f i) t));
}

turned-is : (minus : Bool) {l : List ℕ} {b : Block} {B : Series} → length b.places ≡ count b.lengths → Is l b B
    → Is l (block b.lengths (turned minus b.places)) (λ k. turned_z minus (B k))
unfolding turned_z
turned-is false e w = w
turned-is true {b = b} e w = negated-is (length b.places) e w

-- ---- the three ways

-- room for the left operand and for the result
pub record Room (minus : Bool) (l : List ℕ) (A B : Series) : Type 0 where
  pub left : (k : List ℕ) → length k ≡ 4 → Inside l k → nat_abs (A k) ≤ 2 ^ 53
  pub both : (k : List ℕ) → length k ≡ 4 → Inside l k → nat_abs (join_z minus (A k) (B k)) ≤ 2 ^ 53

module _ (minus : Bool) {l : List ℕ} {a b : Block} {A B : Series} (s : Sits l a) (t : Sits l b) (p : Is l a A) (q : Is l b B) (room : Room minus l A B) where
  start : Inside l origin
  start = stored-under s (origin-stored s)

  right_one : count b.lengths ≡ 1 → Is l (block a.lengths (first_joined minus a.places b.places)) (λ k. join_z minus (A k) (B k))
  right_one h =
      first-changed s p (join-whole minus (first-whole s p) (first-whole t q) (room.both origin refl start))
      (λ k f i other. ap (join_z minus (A k)) (only-first t q h k f i other) ∙ join-none minus (A k))

  left_one : count a.lengths ≡ 1 → Is l (block b.lengths (turned minus (first_joined minus b.places a.places))) (λ k. join_z minus (A k) (B k))
  left_one h =
      is_same_lem (λ k f i. turned-join minus (A k) (B k))
      (turned-is minus (length-set b.places 0 _ ∙ t.full)
      (first-changed t q (join-whole minus (first-whole t q) (first-whole s p)
      (le_trans (le_of_eq (sym (abs-turned minus (join_z minus (B origin) (A origin)))
      ∙ ap nat_abs (turned-join minus (A origin) (B origin)))) (room.both origin refl start)))
      (λ k f i other. ap (join_z minus (B k)) (only-first s p h k f i other) ∙ join-none minus (B k))))

  -- past the longer length is past both
  past-both : (k : List ℕ) → inside (max_shape a.lengths b.lengths) k ≡ false → (inside a.lengths k ≡ false) × (inside b.lengths k ≡ false)
  past-both k e = (
    outside-shorter _ a.lengths k (λ v h. rw (max-at a.lengths b.lengths v h) (omega arith)) e,
    outside-shorter _ b.lengths k (λ v h. rw (max-at a.lengths b.lengths v h) (omega arith)) e,
  )

  neither : Is l (block (max_shape a.lengths b.lengths)
      (table (count (max_shape a.lengths b.lengths)) (place_joined minus a b (max_shape a.lengths b.lengths))))
      (λ k. join_z minus (A k) (B k))
  neither = record {
    at = λ k f i.
        let n = max_shape a.lengths b.lengths in
        let place_at : List ℕ → Float = λ j. join_at minus (join_at false zero_f a j) b j in
        whole-at (block n (table (count n) (λ x. place_at (index n x)))) k
        (λ j. rw (index_read n place_at k f j)
        (join_at_lem minus b k (rw (+ℤ_idl (A k)) at
        (join_at_lem false a k whole-zero (p.at k f i) (rw (+ℤ_idl (A k)) (room.left k f i))))
        (q.at k f i) (room.both k f i)))
        (λ e. let o = past-both k e in ap₂ (join_z minus) (past-at a k (p.at k f i) o.0) (past-at b k (q.at k f i) o.1) ∙ join-none minus (pos 0));
  }

  pub joined_is : Is l (joined_block minus a b) (λ k. join_z minus (A k) (B k))
  unfolding joined_block joined
  joined_is =
      decide (eqb (count b.lengths) 1)
      (λ e. let h = eqb-true _ _ e in rw (e, max-left s t h) (right_one h))
      (λ e. rw e (decide (eqb (count a.lengths) 1)
      (λ u. let h = eqb-true _ _ u in rw (u, max-right s t h) (left_one h))
      (λ u. rw u neither)))
