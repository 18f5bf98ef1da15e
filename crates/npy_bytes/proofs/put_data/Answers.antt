use native.Mathlib.Omega.{arith}
use mathlib.Core.Path.{ap}
use lib.ListN.{length}
use Rattle.npy_bytes.specs.Words.{le-low, data-none, data-next, data-more}
use Rattle.sheet_text.specs.Put.{put-len}
use Rattle.npy_bytes.proofs.put_data.Goals as goal

pub loop-x-init : goal.loop-x-init
loop-x-init c = data-none _ _ _ (omega arith)

pub put_bytes-next-requires : goal.put_bytes-next-requires
put_bytes-next-requires c =
    omega (arith, ap length c.to_le_bytes.ensures, data-next c.loop-x.invariant, put-len c.loop-x.invariant.put)

pub loop-x-preserved : goal.loop-x-preserved
loop-x-preserved c =
    data-more c.loop-x.invariant
    c.loop-x-test.true
    c.word_of.ensures (rw (c.to_le_bytes.ensures, le-low c.word_of.result) at c.put_bytes-next.ensures)
