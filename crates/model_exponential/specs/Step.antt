-- REFERENCE 4.15, 6.2. Document 02, W13: the exponential of a polynomial whose constant gives the head (step kind 11),
-- and which polynomials have one. The steps after the head are those of exp (document 01, port order 6).
use Rattle.std.specs.Prelude.{Bool}
use Rattle.model.specs.Poly.{Poly}
use Rattle.model.specs.Readings.{first}
use Rattle.model.specs.Series.{exp_poly}
use Rattle.model_exponential.specs.Head.{exp_head}
use Rattle.model_exponential.specs.Constant.{in_range}

abbrev pub has_exponential : Poly → Bool
has_exponential p = in_range (first p.coeffs)

unfoldable pub exponential_poly : Poly → Poly
exponential_poly p = exp_poly (exp_head (first p.coeffs)) p
