use Rattle.model.specs.Word.{header_of}
use mathlib.Core.List.{map}
use Rattle.report_lines.specs.Puts.{Putting}
use Rattle.model_texts.specs.Report.{cut_text}
use Rattle.report_lines.proofs.cuts.put_cuts_at.Given as goal

abbrev pub invariant-loop-v : goal.invariant-loop-v
invariant-loop-v l = Putting (cut_text (map header_of l.known) l.steps l.inputs l.full l.p) 4 l.at l.initial.to l.to l.next l.v
