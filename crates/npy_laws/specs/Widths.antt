-- Document 02, W12: an f32 is taken to the f64 of the same value, nothing lost, for every one that is no NaN; and a
-- header's length that lies past the file is refused, however large.
use Rattle.std.specs.Prelude.{Err, ℕ, ◌+◌, ◌*◌, ◌^◌, ◌≤◌, ◌<◌, List, Bool, true, false, not, ◌||◌, ◌&&◌, ◌≡◌, refl, T, length, Float}
use Rattle.std.proofs.Common.{sym, ap, ◌∙◌, arith}
use Rattle.std.proofs.Math.Dec.{leb}
use Rattle.std.specs.Float.Ieee.{of_bits, to_bits, fits, is_nan}
use Rattle.std.specs.Float.{binary32, binary64}
use Rattle.std.specs.Float.Ieee.Bits.{of_bits-fits, of_bits-to_bits, to_bits-of_bits}
use Rattle.std.specs.Float.Ieee.Fits.{fits_widens}
use borrow.Author.Tests.{leb-true}
use Rattle.lists.specs.Test.{and_right}
use Rattle.model.specs.Results.{Answer}
use Rattle.model.specs.Refusals.{refused_by}
use Rattle.npy_grammar.specs.Text.{Values}
use Rattle.npy_files.specs.Frame.{is_version, head_start, data_start, is_framed}
use Rattle.npy_files.specs.Reads.{Says, Reading}
use Rattle.npy_files.specs.Once.{reading-once}

-- ---- w the word of an f32; its value is one of the f64s

module _ (w : ℕ) where
  pub four-is-eight : T (fits binary64 (of_bits binary32 w))
  four-is-eight = fits_widens (of_bits binary32 w) (of_bits-fits binary32 w)

  -- written as an f64 it is the same value still
  pub four-kept : of_bits binary64 (to_bits binary64 (of_bits binary32 w)) ≡ of_bits binary32 w
  four-kept = of_bits-to_bits binary64 (of_bits binary32 w) four-is-eight

  -- and that value has the word of the f32 again: subnormals, both zeros and infinities too
  pub four-back : w < 2 ^ 32 → T (not (is_nan (of_bits binary32 w))) → to_bits binary32 (of_bits binary64 (to_bits binary64 (of_bits binary32 w))) ≡ w
  four-back h n = ap (to_bits binary32) four-kept ∙ to_bits-of_bits binary32 w h n

-- ---- a header that ends past the file

module _ (t : List ℕ) (past : length t < data_start t) where
  not-said : (v : Values) → Says t v → ⊥
  unfolding is_framed
  not-said v s =
      let l = leb-true (data_start t) (length t) (and_right ((is_version 1 t || is_version 2 t) && leb (head_start t) (length t))
      (leb (data_start t) (length t)) s.framed) in
      omega (arith, l, past)

  pub past-refused : {old x : List Float} {a : Answer} → Reading t old a x → (a ≡ Err (refused_by 10)) × (x ≡ old)
  past-refused r = reading-once r (Reading.other not-said)
