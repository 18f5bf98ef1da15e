use borrow.Author.Tests.{eq-eqb, ne_eqb}
use Rattle.lists.specs.Bytes.{bytes}
use Rattle.model_figures.specs.Figures.{heading_text}
use Rattle.report_figures.proofs.line.put_heading.Goals as goal

pub returns-then-vars-eq1 : goal.returns-then-vars-eq1
unfolding heading_text bytes
returns-then-vars-eq1 c =
    rw (eq-eqb _ _ c.if-vars-eq1.true) c.put_either.ensures

pub returns : goal.returns
unfolding heading_text bytes
returns c =
    rw (ne_eqb _ _ c.if-vars-eq1.false) c.put.ensures
