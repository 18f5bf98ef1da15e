use Rattle.blocks.specs.Merge.{Merged}
use Rattle.blocks.proofs.longest_rows.Given as goal

abbrev pub invariant-loop : goal.invariant-loop
invariant-loop l = Merged l.fn.n l.fn.c l.rows.of l.rows.to
