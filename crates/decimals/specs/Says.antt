-- What a printed text says of the float: the number that is printed is the nearest with nine digits behind the point,
-- and the mark stands exactly where it is not the float's own value.
use Rattle.std.specs.Prelude.{ℕ, ◌*◌, ◌^◌, ◌<◌, Bool, true, false, List, ◌≡◌, refl, T, Float}
use Rattle.std.proofs.Common.{sym, arith, pow_pos, eqb-true}
use Rattle.std.specs.Float.{binary64}
use Rattle.std.specs.Float.Ieee.{to_bits, fits}
use Rattle.std.specs.Float.Ieee.Exact.{HasValue}
use Rattle.std.proofs.lemmas.Bool.{eqb-false}
use Rattle.decimals.specs.Nearest.{Nearest, closest-nearest}
use Rattle.model_decimals.specs.Value.{minus_of, units_of}
use Rattle.model_decimals.specs.Text.{billionths, is_exact, rounded_text, value_text, float_text}
use Rattle.decimals_values.specs.Values.{has_same, has-only, units-value, decimal-range}
use Rattle.decimals.specs.Word.{number_text_lem}

-- ---- what is printed of the float x
pub record Says (x : Float) (text : List ℕ) : Type 0 where
  pub minus : Bool
  pub m : ℕ
  pub exact : Bool
  pub is : text ≡ rounded_text minus m exact
  -- x is a / c with that sign
  pub a : ℕ
  pub c : ℕ
  pub above : 0 < c
  pub value : HasValue x minus a c
  -- m is nearest to a / c * 10 ^ 9, a tie to the even one
  pub nearest : Nearest m (a * 1000000000) c
  -- without a mark, x is m / 10 ^ 9; with one, it is not
  pub unmarked : exact ≡ true → HasValue x minus m 1000000000
  pub marked : exact ≡ false → HasValue x minus m 1000000000 → ⊥

says : (x : Float) (s : Bool) (a c : ℕ) → 0 < c → HasValue x s a c → Says x (value_text s a c)
says x s a c P h = record {
  minus = s;
  m = billionths a c;
  exact = is_exact a c;
  is = refl;
  a = a;
  c = c;
  above = P;
  value = h;
  nearest = closest-nearest (a * 1000000000) c P;
  unmarked = λ e. has_same x s a c (billionths a c) 1000000000 P (sym (eqb-true _ _ e)) h;
  marked = λ e g. eqb-false _ _ e (sym (has-only x s s a c (billionths a c) 1000000000 h g));
}

-- every float of size below 2 ^ 63
pub float_says : (x : Float) (s : Bool) (a c : ℕ) → T (fits binary64 x) → HasValue x s a c → a < 2 ^ 63 * c → Says x (float_text x)
unfolding float_text
float_says x s a c f h l =
    let w = to_bits binary64 x in
    let k = decimal-range x s a c f h l in
    rw (number_text_lem w (λ e. omega (arith, e)) k) (says x (minus_of w) (units_of w) (2 ^ 1074) (pow_pos 1074) (units-value x s a c f h))
