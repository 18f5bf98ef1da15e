use lib.ListN.{length}
use Rattle.series_log_line.specs.Line.{next_place, Grown}
use Rattle.series_log_line.proofs.log_line.Given as goal

abbrev pub invariant-loop-k : goal.invariant-loop-k
invariant-loop-k l = Grown (next_place l.m l.xs) l.head (length l.initial.to) l.k l.to
