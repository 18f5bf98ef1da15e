-- A block of whole numbers (document 01, 'Where the result is exact': whole coefficients; equality as numbers), and a
-- block that is a series wherever an index lies under the limits l. The second is what every operation is said to keep:
-- it does not ask how the block is stored, so shortcuts compose.
use Rattle.std.specs.Prelude.{◌≡◌, refl, false, List, ℕ, ◌≤◌, ◌<◌, length, get_or, ℤ, pos, nat_abs, Float}
use Rattle.std.proofs.Common.{sym, ap, ◌∙◌, true≢false, arith}
use Rattle.std.specs.Float.{nan}
use Rattle.lists.specs.Test.{decide}
use Rattle.lists.specs.Table.{table, table_at}
use Rattle.lists.specs.Four.{at, four}
use Rattle.model.specs.Header.{count}
use Rattle.model.specs.Places.{place, index, inside, offset}
use Rattle.model.specs.Poly.{Block, block, read_at, coefficient_at, cut}
use Rattle.model_textbook.specs.Textbook.{Series, truncated, series_of, origin, weight}
use Rattle.laws_whole.specs.Whole.{Whole, whole-one, whole-zero}
use Rattle.laws_whole.specs.IndexLaws.{four_at_lem}
use Rattle.laws_whole.specs.StoredLaws.{inside_in-box, stored_past, in-box-inside}
use Rattle.laws_whole.specs.SeriesSizes.{weight-at}
use Rattle.shape_words.specs.Lengths.{Inside, inside_is, is_inside_lem}
use Rattle.shape_words.specs.Places.{place-lt, index-place}
use Rattle.shape.specs.Cut.{cut_keeps}

-- place p is the whole number a p; the block's series is series_of b.lengths a
pub record Wholes (b : Block) (a : ℕ → ℤ) : Type 0 where
  pub full : length b.places ≡ count b.lengths
  pub at : (p : ℕ) → p < count b.lengths → Whole (get_or b.places p nan) (a p)

-- at every index under the limits l, the coefficient is the number that A has there
pub record Is (l : List ℕ) (b : Block) (A : Series) : Type 0 where
  pub at : (k : List ℕ) → length k ≡ 4 → Inside l k → Whole (coefficient_at b k) (A k)

-- ---- one coefficient: stored, or past the lengths

module _ (b : Block) (k : List ℕ) where
  pub whole-at : {z : ℤ} → (Inside b.lengths k → Whole (read_at b k) z) → (inside b.lengths k ≡ false → z ≡ pos 0) → Whole (coefficient_at b k) z
  unfolding coefficient_at
  whole-at f g = decide (inside b.lengths k) (λ t. rw t (f (inside_is b.lengths k t))) (λ t. rw (t, g t) whole-zero)

  pub stored_at : {z : ℤ} → Whole (coefficient_at b k) z → Inside b.lengths k → Whole (read_at b k) z
  unfolding coefficient_at
  stored_at w i = rw (is_inside_lem i) at w

  pub past-at : {z : ℤ} → Whole (coefficient_at b k) z → inside b.lengths k ≡ false → z ≡ pos 0
  unfolding coefficient_at
  past-at w t = whole-one (rw t at w) whole-zero

-- ---- places and indices

-- two indices of one place
pub place-one : (n k e : List ℕ) → length k ≡ 4 → length e ≡ 4 → Inside n k → Inside n e → place n k ≡ place n e → k ≡ e
place-one n k e f g i j h = four_at_lem k f ∙ sym (index-place n k i) ∙ ap (index n) h ∙ index-place n e j ∙ sym (four_at_lem e g)

-- what stands at a place of a table, by its place and by its index
pub table-read : (n : List ℕ) (m : ℕ) (f : ℕ → Float) (k : List ℕ) → m ≡ count n → Inside n k → read_at (block n (table m f)) k ≡ f (place n k)
table-read n m f k e i = table_at nan f m (place n k) (omega (arith, place-lt n k i))

pub index_read : (n : List ℕ) (g : List ℕ → Float) (k : List ℕ) → length k ≡ 4 → Inside n k → read_at (block n (table (count n) (λ p. g (index n p)))) k ≡ g k
index_read n g k f i = table-read n (count n) (λ p. g (index n p)) k refl i ∙ ap g (index-place n k i ∙ sym (four_at_lem k f))

pub place-origin : (n : List ℕ) → place n origin ≡ 0
unfolding offset
place-origin n = omega arith

-- ---- the block of whole numbers is its series

module _ {b : Block} {a : ℕ → ℤ} (w : Wholes b a) where
  pub wholes-at : (k : List ℕ) → Whole (coefficient_at b k) (series_of b.lengths a k)
  unfolding coefficient_at series_of truncated
  wholes-at k =
      decide (inside b.lengths k) (λ t. rw t
      (w.at (place b.lengths k) (place-lt b.lengths k (inside_is b.lengths k t)))) (λ t. rw t whole-zero)

  pub wholes-is : (l : List ℕ) → Is l b (series_of b.lengths a)
  wholes-is l = record { at = λ k f i. wholes-at k }

-- cutting to l changes nothing under l
pub cut-is : {l : List ℕ} {b : Block} {A : Series} → Is l b A → Is l (cut l b) A
cut-is {l} {b} s = record { at = λ k f i. rw (cut_keeps l b k i) (s.at k f i) }

-- the same number at every index under the limits
pub is_same_lem : {l : List ℕ} {b : Block} {A B : Series} → ((k : List ℕ) → length k ≡ 4 → Inside l k → A k ≡ B k) → Is l b A → Is l b B
is_same_lem h s = record { at = λ k f i. rw (← h k f i) (s.at k f i) }

-- a coefficient is |A| at most
pub size-at : (n : List ℕ) (a : ℕ → ℤ) → length n ≡ 4 → (k : List ℕ) → length k ≡ 4 → nat_abs (series_of n a k) ≤ weight n (series_of n a)
size-at n a four k f =
    decide (inside n k)
    (λ t. weight-at (series_of n a) (inside_in-box n four k f t))
    (λ t. rw (stored_past n four a k f (λ u. absurd (true≢false (sym (in-box-inside n four u) ∙ t)))) (omega arith))
