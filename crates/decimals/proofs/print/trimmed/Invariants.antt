use Rattle.decimals.specs.Digits.{Trim}
use Rattle.decimals.proofs.print.trimmed.Given as goal

abbrev pub invariant-loop-m : goal.invariant-loop-m
invariant-loop-m l = Trim l.part l.m

abbrev pub decreases-loop-m : goal.decreases-loop-m
decreases-loop-m l = l.m
