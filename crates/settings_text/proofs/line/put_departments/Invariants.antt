use Rattle.report_lines.specs.Puts.{Putting}
use Rattle.settings_text.specs.Text.{department_text}
use Rattle.settings_text.proofs.line.put_departments.Given as goal

abbrev pub invariant-loop-d : goal.invariant-loop-d
invariant-loop-d l = Putting (department_text l.words) 32 l.at l.initial.to l.to l.next l.d
