use mathlib.Core.Path.{◌∙◌}
use Rattle.sheet_bits.specs.Bits.{no_nan, is_nan_lem, zero-over-zero}
use Rattle.sheet_bits.proofs.float_of.Goals as goal

pub returns-then-exponent-digits : goal.returns-then-exponent-digits
returns-then-exponent-digits c = zero-over-zero ∙ is_nan_lem c.args.word c.if-exponent-digits.true

pub float_from_bits-result : goal.float_from_bits-result
float_from_bits-result c = no_nan c.args.word c.if-exponent-digits.false
