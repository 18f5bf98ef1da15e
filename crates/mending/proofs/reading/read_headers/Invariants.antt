use Rattle.mending.specs.Headers.{HeadersReading}
use Rattle.mending.proofs.reading.read_headers.Given as goal

abbrev pub invariant-loop-i : goal.invariant-loop-i
invariant-loop-i l = HeadersReading l.text l.initial.headers l.headers l.i
