use Rattle.model.specs.Word.{header_of}
use mathlib.Core.List.{map}
use Rattle.report_lines.specs.Puts.{Putting}
use Rattle.model_texts.specs.Report.{end_text}
use Rattle.report_lines.proofs.ends.put_ends.Given as goal

abbrev pub invariant-loop-v : goal.invariant-loop-v
invariant-loop-v l = Putting (end_text (map header_of l.known) l.steps l.inputs l.p) 4 l.at l.initial.to l.to l.next l.v
