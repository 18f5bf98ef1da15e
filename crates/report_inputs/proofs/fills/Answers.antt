use Rattle.model_figures.specs.Inputs.{fills_some}
use Rattle.report_inputs.proofs.fills.Goals as goal

pub returns : goal.returns
unfolding fills_some
returns c =
    rw (c.is_full.ensures, c.is_full-2.ensures, c.is_full-3.ensures, c.is_full-4.ensures)
