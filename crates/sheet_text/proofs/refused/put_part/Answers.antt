use native.Mathlib.Omega.{arith}
use Rattle.sheet_text.specs.Refused.{part-fits, part_byte, part-made}
use Rattle.sheet_text.proofs.refused.put_part.Goals as goal

pub put_decimal-next-requires : goal.put_decimal-next-requires
put_decimal-next-requires c = part-fits _ _ _ (omega arith) (omega arith)

pub put_byte-requires : goal.put_byte-requires
put_byte-requires c = part_byte _ c.put_decimal-next.ensures (omega arith) (omega arith)

pub returns : goal.returns
returns c = part-made _ _ c.put_decimal-next.ensures c.put_byte.ensures (omega arith)
