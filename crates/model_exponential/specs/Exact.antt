-- REFERENCE 4.15. Document 02, W13: the exact value that an exponential is held against, the sum of the first terms of
-- its series as a fraction; and what it is for a float to be within 2 ^ -40 of it, relative. Nothing here is rounded.
use Rattle.std.specs.Prelude.{ℕ, zero, suc, ◌*◌, ◌^◌, ◌≤◌, ◌<◌, T, ℤ, pos, neg_ℤ, nat_abs, ◌+ℤ◌, ◌-ℤ◌, ◌*ℤ◌, Float, true, false}
use Rattle.std.proofs.Math.IntN.{pow}
use Rattle.std.specs.Float.{nan, inf, fin}
use Rattle.std.specs.Float.Ieee.{up, down}
use Rattle.std.specs.Float.Ieee.Scale.{finite}

-- top / bottom, with a bottom above 0
pub record Fraction : Type 0 where
  pub top : ℤ
  pub bottom : ℕ

-- a finite float is m * 2 ^ e or minus that, and 2 ^ e is up e / down e; a NaN or an infinity is no number, and is said
-- to be 0
abbrev pub value_of : Float → Fraction
value_of nan = record { top = pos 0; bottom = 1 }
value_of (inf s) = record { top = pos 0; bottom = 1 }
value_of (fin false m e) = record { top = pos (m * up e); bottom = down e }
value_of (fin true m e) = record { top = neg_ℤ (pos (m * up e)); bottom = down e }

abbrev pub plus : Fraction → Fraction → Fraction
plus x y = record { top = x.top *ℤ pos y.bottom +ℤ y.top *ℤ pos x.bottom; bottom = x.bottom * y.bottom }

unfoldable pub factorial : ℕ → ℕ
factorial zero = 1
factorial (suc n) = suc n * factorial n

-- x ^ i / i!
abbrev pub term : Fraction → ℕ → Fraction
term x i = record { top = pow x.top i; bottom = x.bottom ^ i * factorial i }

-- 1 + x + x ^ 2 / 2! + .., the first n terms
unfoldable pub series : Fraction → ℕ → Fraction
series x zero = record { top = pos 0; bottom = 1 }
series x (suc n) = plus (series x n) (term x n)

-- |x - y| is at most 2 ^ -40 * |y|, both sides times 2 ^ 40 and the two bottoms
abbrev pub Within : Fraction → Fraction → Type 0
Within x y = nat_abs (x.top *ℤ pos y.bottom -ℤ y.top *ℤ pos x.bottom) * 2 ^ 40 ≤ nat_abs y.top * x.bottom

-- r is an exponential of x
pub record Near (x r : Float) : Type 0 where
  pub is_finite : T (finite r)
  pub is_fraction : 0 < (series (value_of x) 120).bottom
  pub close : Within (value_of r) (series (value_of x) 120)
