use mathlib.Core.List.{map}
use Rattle.report_lines.specs.Puts.{Putting}
use Rattle.model.specs.Word.{header_of}
use Rattle.model_texts.specs.Report.{place_text}
use Rattle.report_lines.proofs.lines.put_places.Given as goal

abbrev pub invariant-loop-p : goal.invariant-loop-p
invariant-loop-p l = Putting (place_text (map header_of l.known) l.steps l.inputs) l.n l.at l.initial.to l.to l.next l.p
