use Rattle.decimals_reading.specs.Scanned.{Scanning}
use Rattle.decimals_reading.proofs.read.Given as goal

abbrev pub invariant-loop-b : goal.invariant-loop-b
invariant-loop-b l = Scanning l.text l.s l.b-index
