use Rattle.model_texts.specs.Report.{joined}
use Rattle.model_figures.specs.Figures.{part_text}
use Rattle.report_figures.specs.Lines.{Putting}
use Rattle.report_figures.proofs.line.put_parts.Given as goal

abbrev pub invariant-loop-v : goal.invariant-loop-v
invariant-loop-v l = Putting (joined (part_text l.vars l.i) l.v) 4 l.v l.at l.initial.to l.to l.next
