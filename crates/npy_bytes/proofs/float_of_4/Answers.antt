use mathlib.Core.Path.{◌∙◌}
use Rattle.sheet_bits.specs.Bits.{zero-over-zero}
use Rattle.npy_bytes.specs.Plain.{four-nan, four-word}
use Rattle.npy_bytes.proofs.float_of_4.Goals as goal

pub returns-then-word-gt2139095040 : goal.returns-then-word-gt2139095040
returns-then-word-gt2139095040 c = zero-over-zero ∙ four-nan c.args.word c.if-word-gt2139095040.true

pub float_from_bits-result : goal.float_from_bits-result
float_from_bits-result c = rw (four-word c.args.word c.if-word-gt2139095040.false) tt
