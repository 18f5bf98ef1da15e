-- Words whose exponent is not all ones: no NaN and no infinity is among them.
use Rattle.std.specs.Prelude.{ℕ, ◌+◌, ◌*◌, ◌%◌, ◌≤◌, ◌<◌, List, true, false, not, ◌≡◌, refl, T, eqb, Float}
use Rattle.std.proofs.Common.{true≢false, sym, ◌∙◌, arith, le-ltb, lt-ltb, eqb-true}
use Rattle.std.specs.Int.Bits.{bit_or, or_add_and}
use Rattle.std.proofs.lemmas.Nat.{and_le_l, and_le_r}
use Rattle.std.specs.Float.{nan, inf, fin, binary32, binary64}
use Rattle.std.specs.Float.Ieee.{nan_bits, is_nan, of_bits}
use Rattle.std.specs.Float.Ieee.Bits.{nan_bits_above, nan_bits_is}
use Rattle.std.proofs.lemmas.Bool.{eqb-false}
use Rattle.lists.specs.Test.{decide}
use Rattle.npy_files.specs.Frame.{little}

-- the exponent field is below 2047
abbrev PlainAt : List ℕ → ℕ → ℕ → Type 0
PlainAt t p k = little 8 t (p + 8 * k) % 9223372036854775808 < 9218868437227405312

-- each of n words from the place p on
abbrev pub Plain : List ℕ → ℕ → ℕ → Type 0
Plain t p n = (k : ℕ) → k < n → PlainAt t p k

pub plain_no-nan : (w : ℕ) → w % 9223372036854775808 < 9218868437227405312 → T (not (nan_bits binary64 w))
plain_no-nan w h = rw (nan_bits_above binary64 w, le-ltb 9218868437227405312 (w % 9223372036854775808) (omega arith)) tt

-- what the loop has seen of k words
abbrev pub SeenPlain : List ℕ → ℕ → ℕ → ℕ → Type 0
SeenPlain t p seen k = seen < 9223372036854775808 → Plain t p k

pub seen_none : (t : List ℕ) (p seen : ℕ) → SeenPlain t p seen 0
seen_none t p seen h k l = absurd (omega arith)

or_bounds : (a b : ℕ) → (a ≤ bit_or a b) × (b ≤ bit_or a b)
or_bounds a b = (omega (arith, or_add_and a b, and_le_r a b), omega (arith, or_add_and a b, and_le_l a b))

pub seen_more : (t : List ℕ) (p : ℕ) {seen w k : ℕ} → SeenPlain t p seen k → w ≡ little 8 t (p + 8 * k)
    → SeenPlain t p (bit_or seen (w % 9223372036854775808 + 4503599627370496)) (k + 1)
seen_more t p {seen} {w} {k} s e h j l =
    let b = or_bounds seen (w % 9223372036854775808 + 4503599627370496) in
    decide (eqb j k)
    (λ q. let i : j ≡ k = eqb-true j k q in rw (i, ← e) (omega (arith, b, h)))
    (λ q. let i = eqb-false j k q in s (omega (arith, b, h)) j (omega arith))

pub plain-all : (t : List ℕ) (p : ℕ) {seen n k : ℕ} → SeenPlain t p seen k → k ≤ n → n ≤ k → seen < 9223372036854775808 → Plain t p n
plain-all t p s l m h j i = s h j (omega arith)

pub plain_word_lem : (t : List ℕ) (p : ℕ) {w n k : ℕ} → Plain t p n → w ≡ little 8 t (p + 8 * k) → k < n → T (not (nan_bits binary64 w))
plain_word_lem t p {w} {n} {k} f e l = plain_no-nan w (rw e (f k l))

-- ---- the words of f32s

only_nan : (x : Float) → is_nan x ≡ true → nan ≡ x
unfolding is_nan
only_nan nan h = refl
only_nan (inf s) h = absurd (true≢false (sym h))
only_nan (fin s m e) h = absurd (true≢false (sym h))

module _ (w : ℕ) where
  pub four-nan : 2139095040 < w % 2147483648 → nan ≡ of_bits binary32 w
  four-nan h = only_nan (of_bits binary32 w) (sym (nan_bits_is binary32 w) ∙ (nan_bits_above binary32 w ∙ lt-ltb 2139095040 (w % 2147483648) h))

  module _ (h : w % 2147483648 ≤ 2139095040) where
    pub four-word : nan_bits binary32 w ≡ false
    four-word = nan_bits_above binary32 w ∙ le-ltb 2139095040 (w % 2147483648) h

    pub four-value : is_nan (of_bits binary32 w) ≡ false
    four-value = sym (nan_bits_is binary32 w) ∙ four-word
