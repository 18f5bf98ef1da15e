use Rattle.report_lines.specs.Puts.{Putting}
use Rattle.settings_text.specs.Text.{kept_text}
use Rattle.settings_text.proofs.line.put_versions.Given as goal

abbrev pub invariant-loop-k : goal.invariant-loop-k
invariant-loop-k l = Putting (kept_text l.words l.d) 8 l.at l.initial.to l.to l.next l.k
