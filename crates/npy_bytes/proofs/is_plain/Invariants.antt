use Rattle.npy_bytes.specs.Plain.{SeenPlain}
use Rattle.npy_bytes.proofs.is_plain.Given as goal

abbrev pub invariant-loop-k : goal.invariant-loop-k
invariant-loop-k l = SeenPlain l.file l.at l.seen l.k
