use borrow.Author.Tests.{eq-eqb, ne_eqb}
use Rattle.model_figures.specs.Figures.{figure_text}
use Rattle.report_figures.proofs.line.put_figure.Goals as goal

pub returns-then-h-eq1 : goal.returns-then-h-eq1
unfolding figure_text
returns-then-h-eq1 c =
    rw (eq-eqb _ _ c.if-h-eq1.true) c.put_sum_line.ensures

pub returns : goal.returns
unfolding figure_text
returns c =
    rw (ne_eqb _ _ c.if-h-eq1.false) c.put_plain.ensures
