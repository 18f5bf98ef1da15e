-- Numbers read off a polynomial, over plain values: w the header word, a the coefficients.
use Rattle.std.specs.Prelude.{ℕ, ◌*◌, ◌≤◌, ◌<◌, List, true, false, ◌≡◌, length, get_or, Float}
use Rattle.std.proofs.Common.{sym, arith, mul-le-mul, mul-pos, le_refl, get_or-take}
use Rattle.std.specs.Float.Ieee.{nan}
use Rattle.lists.specs.Four.{at}
use Rattle.model.specs.Header.{count, stored, len}
use Rattle.model.specs.Word.{header_of}
use Rattle.model.specs.Places.{place, inside}
use Rattle.model.specs.Refusals.{zero_f}
use Rattle.model.specs.Poly.{block_of, held, coefficient_at}
use Rattle.shape_words.specs.Lengths.{Lengths, count-is, count-pos, lengths_of_lem, inside_is}
use Rattle.shape_words.specs.Places.{place-lt}
use Rattle.gates.specs.Gate.{ReadReady}

pub read-lengths : {w m : ℕ} → ReadReady w m → Lengths (header_of w).lengths
read-lengths g = lengths_of_lem g.good.regular.rules

pub read_some : {w m : ℕ} → ReadReady w m → 0 < m
read_some g = omega (arith, g.full, count-pos (read-lengths g))

module _ (w : ℕ) (a : List Float) (i : List ℕ) where
  pub read-place : ReadReady w (length a) → inside (header_of w).lengths i ≡ true → place (header_of w).lengths i < length a
  read-place g t = omega (arith, place-lt (header_of w).lengths i (inside_is _ i t), g.full)

  pub coefficient-stored : inside (header_of w).lengths i ≡ true → get_or a (place (header_of w).lengths i) nan ≡ coefficient_at (block_of (held w a)) i
  unfolding coefficient_at
  coefficient-stored t = rw t (sym (get_or-take (stored (header_of w)) a (place (header_of w).lengths i) nan (place-lt (header_of w).lengths
      i (inside_is _ i t))))

  pub coefficient-past : inside (header_of w).lengths i ≡ false → zero_f ≡ coefficient_at (block_of (held w a)) i
  unfolding coefficient_at
  coefficient-past t = rw t

-- the first length is at most the count
first-most : {n : List ℕ} → Lengths n → at n 0 ≤ count n
first-most {n} g =
    let m : at n 0 * 1 ≤ at n 0 * (at n 1 * (at n 2 * at n 3)) = mul-le-mul (le_refl (at n 0)) (mul-pos g.p1 (mul-pos g.p2 g.p3)) in
    rw (count-is n) (omega arith)

pub tail-room : {w m : ℕ} → ReadReady w m → len (header_of w) 0 ≤ m
tail-room g = omega (arith, g.full, first-most (read-lengths g))
