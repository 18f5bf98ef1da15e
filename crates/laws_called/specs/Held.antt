-- What a caller lends: a header word that is good and a buffer that is long enough are a polynomial to which the laws
-- of exactness apply. Said of the buffer itself: which float stands at which place.
use Rattle.std.specs.Prelude.{◌≡◌, true, List, ℕ, ◌≤◌, ◌<◌, length, get_or, ℤ, Float}
use Rattle.std.proofs.Common.{◌∙◌, arith, length-take, get_or-take}
use Rattle.std.specs.Float.{nan}
use Rattle.model.specs.Header.{stored}
use Rattle.model.specs.Word.{header_of, good_word}
use Rattle.model.specs.Places.{place}
use Rattle.model.specs.Poly.{block_of, held}
use Rattle.model_textbook.specs.Textbook.{Series, truncated, series_of, weight}
use Rattle.laws_whole.specs.Whole.{Whole}
use Rattle.shape_words.specs.Rules.{Regular}
use Rattle.shape_words.specs.Words.{good_word_lem}
use Rattle.shape_words.specs.Lengths.{Inside, is_inside_lem}
use Rattle.shape_words.specs.Places.{place-lt}
use Rattle.laws_exact.specs.Wholes.{Wholes, Is, whole-at}

-- every stored coefficient of the buffer x under the header word w is whole: a says which number stands at which place
pub record AllWhole (w : ℕ) (x : List Float) (a : ℕ → ℤ) : Type 0 where
  pub at : (p : ℕ) → p < stored (header_of w) → Whole (get_or x p nan) (a p)

-- only those are, whose index lies under the limits l: what a cut to l leaves
pub record WholeUnder (l : List ℕ) (w : ℕ) (x : List Float) (a : ℕ → ℤ) : Type 0 where
  pub at : (k : List ℕ) → length k ≡ 4 → Inside l k → Inside (header_of w).lengths k
      → Whole (get_or x (place (header_of w).lengths k) nan) (a (place (header_of w).lengths k))

-- the series that they are, zero past the stored lengths; and |A|, of all that is stored
abbrev pub series_under : ℕ → (ℕ → ℤ) → Series
series_under w a = series_of (header_of w).lengths a

abbrev pub weight_of : ℕ → (ℕ → ℤ) → ℕ
weight_of w a = weight (header_of w).lengths (series_under w a)

-- where all are whole, those under any limits are
pub all_under : (l : List ℕ) {w : ℕ} {x : List Float} {a : ℕ → ℤ} → AllWhole w x a → WholeUnder l w x a
all_under l {w} s = record { at = λ k f i o. s.at (place (header_of w).lengths k) (place-lt (header_of w).lengths k o) }

-- ---- the polynomial that is lent

pub held-regular : (w : ℕ) (x : List Float) → good_word w ≡ true → Regular (held w x).head
held-regular w x g = (good_word_lem w g).regular

-- as many coefficients as the header says
pub held-full : (w : ℕ) (x : List Float) → stored (header_of w) ≤ length x → length (held w x).coeffs ≡ stored (held w x).head
held-full w x h = length-take (stored (header_of w)) x ∙ omega arith

pub held-wholes : {w : ℕ} {x : List Float} {a : ℕ → ℤ} → AllWhole w x a → length (held w x).coeffs ≡ stored (held w x).head → Wholes (block_of (held w x)) a
held-wholes {w} {x} s f = record { full = f; at = λ p l. rw (get_or-take (stored (header_of w)) x p nan l) (s.at p l) }

pub held-is : {l : List ℕ} {w : ℕ} {x : List Float} {a : ℕ → ℤ} → WholeUnder l w x a → Is l (block_of (held w x)) (series_under w a)
unfolding series_of truncated
held-is {w = w} {x = x} s = record {
  at = λ k f i.
      let n = (header_of w).lengths in
      whole-at (block_of (held w x)) k
      (λ o. rw (is_inside_lem o, get_or-take (stored (header_of w)) x (place n k) nan (place-lt n k o)) (s.at k f i o))
      (λ t. rw t);
}
