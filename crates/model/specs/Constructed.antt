-- REFERENCE 4.2. Document 01, port order 2, constructors, with the lengths of 'What must change shape': each writes its
-- coefficients to a lent buffer.
use Rattle.std.specs.Prelude.{ℕ, [], ◌∷◌, take, pos, Float}
use Rattle.std.specs.Float.Ieee.{of_int}
use Rattle.std.specs.Float.{binary64}
use Rattle.model.specs.declared.Header.{Header}
use Rattle.model.specs.Header.{stored}
use Rattle.model.specs.Poly.{Poly, poly}
use Rattle.model.specs.Readings.{one_f}

-- a constant
abbrev pub constant : Header → Float → Poly
constant h x = poly h (x ∷ [])

-- a constant from a whole number
abbrev pub whole_f : ℕ → Float
whole_f n = of_int binary64 (pos n)

-- x + v: the limit of v may leave no room for v
abbrev pub variable : Header → Float → Poly
variable h x = poly h (take (stored h) (x ∷ one_f ∷ []))
