-- Which floats and words are NaNs, as the code tests it.
use Rattle.std.specs.Prelude.{ℕ, ◌*◌, ◌/◌, ◌%◌, ◌^◌, Bool, not, ◌&&◌, ◌||◌, ◌≡◌, T, eqb, Float}
use Rattle.std.proofs.Math.Bool.{true, false}
use Rattle.std.specs.Bool.{beq}
use Rattle.std.proofs.Common.{true≢false, ◌∙◌, eq-eqb, eqb-true}
use Rattle.std.proofs.Math.Path.{refl, sym}
use Rattle.std.specs.Float.{nan, inf, fin, binary64}
use Rattle.std.specs.Float.Ieee.{div, eq, is_nan, of_bits, of_fields, nan_bits, up, down}

-- a float that equals itself is no NaN, and a NaN is the only one that does not
pub itself : (x : Float) → eq x x ≡ true → T (not (is_nan x))
unfolding eq is_nan
itself nan e = absurd (true≢false (sym e))
itself (inf s) e = tt
itself (fin s m d) e = tt

same_sign : (s : Bool) → beq s s ≡ true
same_sign true = refl
same_sign false = refl

pub only_nan : (x : Float) → eq x x ≡ false → x ≡ nan
unfolding eq
only_nan nan e = refl
only_nan (inf s) e = absurd (true≢false (sym (same_sign s) ∙ e))
only_nan (fin s m d) e = absurd (true≢false (sym (levels s (m * up d * down d)) ∙ e))
  where
    levels : (s : Bool) (n : ℕ) → (eqb n n && (beq s s || eqb n 0)) ≡ true
    levels s n = simp (eq-eqb n n refl, same_sign s)

-- a word's exponent field x and digits t
module _ (w : ℕ) where
  abbrev field : ℕ
  field = w % 2 ^ 63 / 2 ^ 52

  abbrev digits : ℕ
  digits = w % 2 ^ 52

  pub no_nan : (eqb field 2047 && not (eqb digits 0)) ≡ false → T (not (nan_bits binary64 w))
  unfolding nan_bits
  no_nan e = rw e tt

  fields_nan : (s : Bool) (x t : ℕ) → x ≡ 2047 → eqb t 0 ≡ false → of_fields binary64 s x t ≡ nan
  unfolding of_fields
  fields_nan s x t e f = rw (e, f)

  pub is_nan_lem : (eqb field 2047 && not (eqb digits 0)) ≡ true → nan ≡ of_bits binary64 w
  unfolding of_bits
  is_nan_lem e = sym (fields_nan _ field digits (eqb-true _ _ (left (eqb field 2047) (not (eqb digits 0)) e)) (right (eqb field 2047) (eqb digits 0) e))
    where
      left : (a b : Bool) → (a && b) ≡ true → a ≡ true
      left true b h = refl
      left false b h = h

      right : (a b : Bool) → (a && not b) ≡ true → b ≡ false
      right true true h = sym h
      right true false h = refl
      right false b h = absurd (true≢false (sym h))

pub zero-over-zero : div binary64 (of_bits binary64 0) (of_bits binary64 0) ≡ nan
unfolding div of_bits
zero-over-zero = refl
