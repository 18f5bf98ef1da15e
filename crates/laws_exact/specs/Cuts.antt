-- What is a series under the limits is a block of whole numbers again (document 01, 'Where the result is exact'), and
-- its own series agrees with it there. So is what cutting leaves; its |A| is no more than before.
use Rattle.std.specs.Prelude.{◌≡◌, List, ℕ, ◌*◌, ◌≤◌, ◌<◌, ℤ}
use Rattle.std.proofs.Math.Path.{refl, sym, ap}
use Rattle.std.proofs.Common.{◌∙◌, mul_assoc, mod-lt, div-lt_iff_lt-mul, arith, lit<}
use Rattle.std.proofs.Math.Nat.{le_trans, le_of_eq}
use Rattle.std.proofs.Math.ListN.{length}
use Rattle.std.proofs.Math.IntN.{nat_abs}
use Rattle.lists.specs.Four.{at}
use Rattle.model.specs.Header.{count}
use Rattle.model.specs.Places.{index}
use Rattle.model.specs.Limits.{cut_to}
use Rattle.model.specs.Poly.{Block, cut}
use Rattle.model_textbook.specs.Textbook.{Series, series_of, weight}
use Rattle.laws_whole.specs.Whole.{whole-one}
use Rattle.laws_whole.specs.Index.{Within}
use Rattle.laws_whole.specs.BoxSizes.{box_n-le, box_n-part}
use Rattle.laws_whole.specs.IndexLaws.{in-box-length}
use Rattle.laws_whole.specs.StoredLaws.{in-box-inside}
use Rattle.shape_words.specs.Lengths.{Inside, inside_is, count-is}
use Rattle.shape_words.specs.Places.{place-index}
use Rattle.shape.specs.Cut.{cut_at}
use Rattle.laws_keeps.specs.Sits.{Sits, cut-sits}
use Rattle.laws_exact.specs.Wholes.{Wholes, Is, stored_at, wholes-at, wholes-is, cut-is}
use Rattle.laws_exact.specs.Firsts.{stored-under}
use Rattle.laws_exact.specs.Windows.{at-within}

-- every place's index lies inside (crate words has it for lengths of 64 at most)
pub index-stored : (n : List ℕ) (p : ℕ) → ((k : ℕ) → k < 4 → 1 ≤ at n k) → p < count n → Inside n (index n p)
unfolding index
index-stored n p g h =
    let k : p < at n 0 * at n 1 * at n 2 * at n 3 =
    rw (mul_assoc (at n 0 * at n 1) (at n 2) (at n 3), mul_assoc (at n 0) (at n 1) (at n 2 * at n 3), ← count-is n)
    h in
    record {
      i0 = (div-lt_iff_lt-mul (g 1 (lit< tt))).1 ((div-lt_iff_lt-mul (g 2 (lit< tt))).1 ((div-lt_iff_lt-mul (g 3 (lit< tt))).1 k));
      i1 = mod-lt _ (g 1 (lit< tt));
      i2 = mod-lt _ (g 2 (lit< tt));
      i3 = mod-lt _ (g 3 (lit< tt));
    }

-- the numbers at the places of a block with the lengths n
abbrev pub numbers_of : List ℕ → Series → ℕ → ℤ
numbers_of n A p = A (index n p)

module _ {l : List ℕ} {b : Block} {A : Series} (s : Sits l b) (w : Is l b A) where
  pub is-wholes : Wholes b (numbers_of b.lengths A)
  unfolding index
  is-wholes = record {
    full = s.full;
    at = λ p h.
        let n = b.lengths in
        let i = index-stored n p s.lo h in
        rw (place-index n p) at (stored_at b (index n p) (w.at (index n p) refl (stored-under s i)) i);
  }

  -- its series agrees with A under the limits
  pub wholes_agree : (k : List ℕ) → length k ≡ 4 → Inside l k → series_of b.lengths (numbers_of b.lengths A) k ≡ A k
  wholes_agree k f i = whole-one (wholes-at is-wholes k) (w.at k f i)

  -- and its weight is no more
  pub wholes-weight : weight b.lengths (series_of b.lengths (numbers_of b.lengths A)) ≤ weight b.lengths A
  unfolding weight
  wholes-weight =
      let n = b.lengths in
      let four = ap length s.ns in
      box_n-le _ (λ k. nat_abs (A k)) n (λ k u. le_of_eq
      (ap nat_abs (wholes_agree k (in-box-length u ∙ four)
      (stored-under s (inside_is n k (in-box-inside n four u))))))

-- ---- cutting

module _ (l : List ℕ) {b : Block} {a : ℕ → ℤ} (pos_l : (k : ℕ) → k < 4 → 1 ≤ at l k) (s : Sits b.lengths b) (w : Wholes b a) where
  abbrev numbers : ℕ → ℤ
  numbers = numbers_of (cut l b).lengths (series_of b.lengths a)

  sits : Sits l (cut l b)
  sits = cut-sits l b pos_l s.lo

  pub cut-wholes : Wholes (cut l b) numbers
  cut-wholes = is-wholes sits (cut-is (wholes-is w l))

  pub cut-agrees : (k : List ℕ) → length k ≡ 4 → Inside l k → series_of (cut l b).lengths numbers k ≡ series_of b.lengths a k
  cut-agrees = wholes_agree sits (cut-is (wholes-is w l))

  shorter : Within (cut l b).lengths b.lengths
  unfolding cut
  shorter = at-within (cut_to l b.lengths) b.lengths (ap length sits.ns ∙ sym (ap length s.ns))
      (λ v h. let g : v < 4 = rw (ap length s.ns) at h in rw (cut_at l b.lengths v g) (omega arith))

  pub cut-weight : weight (cut l b).lengths (series_of (cut l b).lengths numbers) ≤ weight b.lengths (series_of b.lengths a)
  unfolding weight
  cut-weight = le_trans (wholes-weight sits (cut-is (wholes-is w l))) (box_n-part (λ k. nat_abs (series_of b.lengths a k)) shorter)
