use native.Mathlib.Omega.{arith}
use Rattle.decimals_reading.specs.Tens.{quotient_is, in_float_lem}
use Rattle.decimals_reading.proofs.quotient.quotient.Goals as goal

pub int_to_float-result : goal.int_to_float-result
int_to_float-result c = in_float_lem c.args.w (omega arith)

pub returns : goal.returns
returns c = quotient_is c.args.w c.args.k _ (omega arith) (omega arith) c.ten.ensures
