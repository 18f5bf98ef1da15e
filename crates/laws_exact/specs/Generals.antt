-- The general product of two blocks under the limits l (document 01, port order 4, 'General') is the product of their
-- series there: at the places that it stores, and past them, where the product of two polynomials of those lengths is
-- zero.
use Rattle.std.specs.Prelude.{◌≡◌, false, length, ℤ, pos, ◌*ℤ◌}
use Rattle.std.proofs.Math.Path.{refl, sym}
use Rattle.std.proofs.Common.{ap, ◌∙◌, true≢false, arith}
use mathlib.Core.List.{List}
use Prim.Native.Nat.{ℕ, ◌^◌, ◌≤◌}
use Rattle.std.proofs.Math.IntN.{+ℤ_idl, zero-*ℤ, *ℤ-zero}
use Rattle.std.specs.Float.Ieee.{Float}
use Rattle.lists.specs.Test.{decide}
use Rattle.lists.specs.Table.{table}
use Rattle.lists.specs.Four.{at}
use Rattle.model.specs.Header.{count}
use Rattle.model.specs.Places.{index, inside}
use Rattle.model.specs.Limits.{sum_shape}
use Rattle.model_textbook.specs.Box.{index_minus}
use Rattle.model.specs.Refusals.{zero_f}
use Rattle.model.specs.Poly.{Block, block}
use Rattle.model.specs.General.{product_at, general}
use Rattle.model_textbook.specs.Textbook.{Series, times}
use Rattle.laws_whole.specs.Whole.{whole-zero}
use Rattle.laws_whole.specs.Index.{Within}
use Rattle.laws_whole.specs.IndexLaws.{in-box-length, within-length, minus-length, minus-within, four_at_lem}
use Rattle.laws_whole.specs.PlaceLaws.{place_of-four}
use Rattle.laws_whole.specs.StoredLaws.{in-box-inside, inside_in-box}
use Rattle.laws_whole.specs.SeriesSizes.{sizes}
use Rattle.shape_words.specs.Lengths.{Inside, inside_is, is_inside_lem, inside-four, inside-at}
use Rattle.laws_keeps.specs.Sits.{Sits, sum_at_lem}
use Rattle.laws_exact.specs.Wholes.{Is, whole-at, stored_at, past-at, index_read}
use Rattle.laws_exact.specs.Firsts.{outside, stored-under}
use Rattle.laws_keeps.specs.ProductKeeps.{left-fits, right-fits}
use Rattle.laws_exact.specs.Windows.{within-at, minus-at, times_none}
use Rattle.laws_exact.specs.Remaining.{from, from-four}
use Rattle.laws_exact.specs.Terms.{Stores}
use Rattle.laws_exact.specs.Rows.{place-whole}

-- the sizes of the terms at every index under the limits sum to 2 ^ 53 at most
pub record Fits (l : List ℕ) (A B : Series) : Type 0 where
  pub at : (k : List ℕ) → length k ≡ 4 → Inside l k → sizes A B k ≤ 2 ^ 53

-- what lies before an index under the limits lies under them
pub before : {l j k : List ℕ} → Within j k → Inside l k → Inside l j
before w i = inside-four (λ v h. omega (arith, within-at w v, inside-at i v h))

module _ {l : List ℕ} {a : Block} {A : Series} (s : Sits l a) (p : Is l a A) where
  length-four : length a.lengths ≡ 4
  length-four = ap length s.ns

  -- where the lengths do not reach, a number is zero
  pub past_is : (k : List ℕ) → length k ≡ 4 → Inside l k → inside a.lengths k ≡ false → A k ≡ pos 0
  past_is k f i t = past-at a k (p.at k f i) t

  stores-of : (k : List ℕ) → length k ≡ 4 → Inside l k → Stores a.lengths k a.places A
  stores-of k f i = record {
    known = λ j u w.
        let e : length j ≡ 4 = in-box-length u ∙ length-four in
        let o = inside_is a.lengths j (in-box-inside a.lengths length-four u) in
        rw (place_of-four a.lengths j length-four e) (stored_at a j (p.at j e (stored-under s o)) o);
    past = λ j w o.
        let e : length j ≡ 4 = within-length w ∙ f in
        past_is j e (before w i) (outside a.lengths j (λ x. o (inside_in-box a.lengths length-four j e (is_inside_lem x))));
  }

  pub stores : (k : List ℕ) → length k ≡ 4 → Inside l k → Stores (from a.lengths 4 0) (from k 4 0) a.places A
  stores k f i = rw (from-four a.lengths, from-four k, ← s.ns, ← four_at_lem k f) (stores-of k f i)

module _ {l : List ℕ} {a b : Block} {A B : Series} (s : Sits l a) (t : Sits l b) (p : Is l a A) (q : Is l b B) where
  abbrev shape : List ℕ
  shape = sum_shape l a.lengths b.lengths

  past-product : (k : List ℕ) → length k ≡ 4 → Inside l k → inside shape k ≡ false → times A B k ≡ pos 0
  past-product k f i o =
      times_none A B k (λ j w.
      let d = index_minus k j in
      let e : length d ≡ 4 = minus-length k j ∙ f in
      decide (inside a.lengths j)
      (λ u. decide (inside b.lengths d)
      (λ v.
      let x = inside_is a.lengths j u in
      let y = inside_is b.lengths d v in
      absurd (true≢false (sym (is_inside_lem {n = shape} (inside-four (λ c h.
      rw (sum_at_lem l a.lengths b.lengths c h) (omega (arith, inside-at x c h, inside-at y c h, inside-at i c h, minus-at k j c, within-at w c))))) ∙ o)))
      (λ v. ap (λ (z : ℤ). A j *ℤ z) (past_is t q d e (before (minus-within k j) i) v) ∙ *ℤ-zero (A j)))
      (λ u. ap (λ (z : ℤ). z *ℤ B d) (past_is s p j (within-length w ∙ f) (before w i) u) ∙ zero-*ℤ (B d)))

  pub general-is : Fits l A B → Is l (block shape (general a.lengths b.lengths shape a.places b.places)) (times A B)
  unfolding general
  general-is room = record {
    at = λ k f i.
        let g : List ℕ → Float = λ k. product_at a.lengths b.lengths shape k 4 0 a.places b.places zero_f in
        let same : from k 4 0 ≡ k = from-four k ∙ sym (four_at_lem k f) in
        whole-at (block shape (table (count shape) (λ x. g (index shape x)))) k
        (λ j. rw (index_read shape g k f j, ← +ℤ_idl (times A B k))
        (rw same at (place-whole (left-fits s t) (right-fits s t) j 4 0 refl (stores s p k f i)
        (stores t q k f i) whole-zero (rw same (omega (arith, room.at k f i))))))
        (past-product k f i);
  }
