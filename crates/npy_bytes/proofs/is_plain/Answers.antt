use Rattle.npy_bytes.specs.Plain.{seen_more}
use Rattle.npy_bytes.proofs.is_plain.Goals as goal

pub loop-k-preserved : goal.loop-k-preserved
loop-k-preserved c = seen_more _ _ c.loop-k.invariant c.little_8.ensures
