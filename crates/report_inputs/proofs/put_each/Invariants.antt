use Rattle.report_lines.specs.Puts.{Putting}
use lib.ListN.{length}
use Rattle.model_figures.specs.Inputs.{input_text}
use Rattle.report_inputs.proofs.put_each.Given as goal

abbrev pub invariant-loop-i : goal.invariant-loop-i
invariant-loop-i l = Putting (input_text l.headers l.xs) (length l.headers) l.at l.initial.to l.to l.next l.i
