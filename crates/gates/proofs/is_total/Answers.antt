use lib.Ieee.{nan_bits}
use Rattle.gates.specs.Sole.{total-is}
use borrow.Author.Rules.{rules}
use Rattle.gates.proofs.is_total.Goals as goal

pub float_from_bits-infinity : goal.float_from_bits-infinity
unfolding nan_bits
float_from_bits-infinity c = search rules

pub returns : goal.returns
returns c = total-is c.args.total
