use Rattle.model.specs.Word.{header_of}
use mathlib.Core.List.{map}
use Rattle.report_lines.specs.Puts.{Putting}
use Rattle.model_texts.specs.Report.{cuts_text}
use Rattle.report_lines.proofs.cuts.put_cuts.Given as goal

abbrev pub invariant-loop-p : goal.invariant-loop-p
invariant-loop-p l = Putting (cuts_text (map header_of l.known) l.steps l.inputs l.full) l.n l.at l.initial.to l.to l.next l.p
