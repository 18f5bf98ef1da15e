use borrow.Author.Tests.{lt-ltb, le-ltb}
use Rattle.model_figures.specs.Inputs.{first_text}
use Rattle.report_inputs.proofs.put_first.Goals as goal

pub returns-then-k-m : goal.returns-then-k-m
unfolding first_text
returns-then-k-m c =
    rw (lt-ltb _ _ c.if-k-m.true) c.put_cell.ensures

pub returns : goal.returns
unfolding first_text
returns c =
    rw (le-ltb _ _ c.if-k-m.false) c.put_float.ensures
