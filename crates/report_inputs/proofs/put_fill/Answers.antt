use borrow.Author.Tests.{eq-eqb, ne_eqb}
use Rattle.lists.specs.Bytes.{bytes}
use Rattle.model_figures.specs.Inputs.{fill_text}
use Rattle.report_inputs.proofs.put_fill.Goals as goal

pub returns-then-h-eq0 : goal.returns-then-h-eq0
unfolding fill_text bytes
returns-then-h-eq0 c =
    rw (eq-eqb _ _ c.if-h-eq0.true) c.put.ensures

pub returns : goal.returns
unfolding fill_text bytes
returns c =
    rw (ne_eqb _ _ c.if-h-eq0.false, ← c.fills.ensures) c.put_either.ensures
