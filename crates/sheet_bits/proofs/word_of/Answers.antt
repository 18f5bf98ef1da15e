use Rattle.sheet_bits.specs.Bits.{itself, only_nan}
use lib.Ieee.{to_bits}
use Rattle.sheet_bits.proofs.word_of.Goals as goal

pub float_to_bits-result : goal.float_to_bits-result
float_to_bits-result c = itself c.args.x c.if-x.true

pub returns : goal.returns
unfolding to_bits
returns c = rw (only_nan c.args.x c.if-x.false)
