use Rattle.model_figures.specs.Cells.{blanks}
use Rattle.report_figures.specs.Lines.{Putting}
use Rattle.report_figures.proofs.cell.put_blanks.Given as goal

abbrev pub invariant-loop : goal.invariant-loop
invariant-loop l = Putting (blanks l.counter) l.n l.counter l.at l.initial.to l.to l.next
