use native.Mathlib.Omega.{arith}
use Rattle.sheet_text.specs.Put.{table_none, table_more}
use Rattle.mending.proofs.print.put_digits.Goals as goal

pub loop-k-init : goal.loop-k-init
loop-k-init c = table_none _ _ _ _ (omega arith)

pub loop-k-preserved : goal.loop-k-preserved
loop-k-preserved c =
    table_more c.loop-k.invariant c.byte_at.ensures c.loop-k-test.true (omega arith)
