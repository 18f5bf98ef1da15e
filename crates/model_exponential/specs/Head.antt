-- REFERENCE 4.15. Document 02, W13 leaves open which float within 2 ^ -40 is the exponential of a constant; these steps
-- fix it: e ^ x as e ^ (x + 9) over e ^ 9, the first 72 terms of the series at x + 9 by Horner's rule. From -8 to 8 no
-- operand is negative, so nothing cancels. What the result is worth is a law: `head_near`, crate laws_exponential.
use Rattle.std.specs.Prelude.{ℕ, zero, suc, ◌-◌, Float}
use Rattle.std.specs.Float.{binary64}
use Rattle.std.specs.Float.Ieee.{of_bits, add, mul, div}
use Rattle.model.specs.Readings.{one_f}
use Rattle.model.specs.Constructed.{whole_f}

-- 9.0
abbrev pub nine_f : Float
nine_f = of_bits binary64 0x4022_0000_0000_0000

-- 8103.083927575384, the float nearest to e ^ 9
abbrev pub e_nine_f : Float
e_nine_f = of_bits binary64 0x40bf_a715_7c47_0f82

-- 1 + t / k * h
abbrev pub exp_turn : Float → ℕ → Float → Float
exp_turn t k h = add binary64 one_f (mul binary64 (div binary64 t (whole_f k)) h)

-- after m turns, at k = 71, 70, ..
unfoldable pub exp_turns : Float → ℕ → Float
exp_turns t zero = one_f
exp_turns t (suc m) = exp_turn t (71 - m) (exp_turns t m)

unfoldable pub exp_head : Float → Float
unfolding exp_turns
exp_head x = div binary64 (exp_turns (add binary64 x nine_f) 71) e_nine_f
