use Rattle.report_lines.specs.Puts.{Putting}
use Rattle.model_figures.specs.Inputs.{first_text}
use Rattle.report_inputs.proofs.put_shown.Given as goal

abbrev pub invariant-loop-k : goal.invariant-loop-k
invariant-loop-k l = Putting (first_text l.xs l.m) l.m l.at l.initial.to l.to l.next l.k
