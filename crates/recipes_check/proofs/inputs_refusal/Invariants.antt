use Rattle.recipes_check.specs.Inputs.{Looking}
use Rattle.recipes_check.proofs.inputs_refusal.Given as goal

abbrev pub invariant-loop-i : goal.invariant-loop-i
invariant-loop-i l = Looking l.headers l.i
