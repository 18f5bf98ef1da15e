use mathlib.Core.Path.{◌≡◌}
use lib.ListN.{length}
use Rattle.quotient_lessening.specs.Laid.{Laid}
use Rattle.quotient.specs.Firsts.{firsts_laid}
use Rattle.quotient.proofs.kernel.each_first.Given as goal

abbrev pub invariant-loop-k : goal.invariant-loop-k
invariant-loop-k l = (length l.row ≡ length l.initial.row) × Laid l.q (firsts_laid l.lx l.nx l.ly l.r l.b l.f
    l.initial.work l.k) l.p l.initial.work l.work
