use native.Mathlib.Omega.{arith}
use Rattle.sheet_text.specs.Decimal.{decimal-most}
use Rattle.report_lines.proofs.put.put_number.Goals as goal

pub put_decimal-end-requires : goal.put_decimal-end-requires
put_decimal-end-requires c = omega (arith, decimal-most 20 c.args.n (omega arith) (omega arith) (omega arith))
