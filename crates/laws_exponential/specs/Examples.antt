-- The definition of the exact value on three terms: at 1 they are 1 + 1 + 1 / 2 = 5 / 2; at -1 / 2 they are 1 - 1 / 2 +
-- 1 / 8 = 10 / 16. And a fraction that is just within 2 ^ -40 of 1: 2 ^ 40 + 1 over 2 ^ 40.
use Rattle.std.specs.Prelude.{◌≡◌, refl, ◌+◌, ◌^◌, pos, neg_ℤ}
use Rattle.std.proofs.Common.{lit≤}
use Rattle.std.proofs.Math.IntN.{pow, one}
use Rattle.model_exponential.specs.Exact.{Fraction, series, factorial, Within}

three-terms : series (record { top = pos 1; bottom = 1 }) 3 ≡ record { top = pos 5; bottom = 2 }
unfolding series pow one factorial
three-terms = refl

three-terms-below : series (record { top = neg_ℤ (pos 1); bottom = 2 }) 3 ≡ record { top = pos 10; bottom = 16 }
unfolding series pow one factorial
three-terms-below = refl

just-within : Within (record { top = pos (2 ^ 40 + 1); bottom = 2 ^ 40 }) (record { top = pos 1; bottom = 1 })
just-within = lit≤ tt
