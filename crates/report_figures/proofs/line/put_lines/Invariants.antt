use lib.ListN.{length}
use Rattle.model_texts.specs.Report.{joined}
use Rattle.model_figures.specs.Figures.{figure_text}
use Rattle.report_figures.specs.Lines.{Putting}
use Rattle.report_figures.proofs.line.put_lines.Given as goal

abbrev pub invariant-loop-p : goal.invariant-loop-p
invariant-loop-p l = Putting (joined (figure_text l.h l.xs l.total l.parts) l.p) (length l.xs) l.p l.at l.initial.to l.to l.next
