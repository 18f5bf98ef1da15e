use Rattle.quotient_lessening.specs.Laid.{Laid}
use Rattle.quotient_levels.specs.Line.{line_laid}
use Rattle.quotient_levels.proofs.line.Given as goal

abbrev pub invariant-loop-k : goal.invariant-loop-k
invariant-loop-k l = Laid l.q (line_laid l.ly l.fn.r l.v l.p l.e l.b l.f l.initial.work l.k) l.e l.initial.work l.work
