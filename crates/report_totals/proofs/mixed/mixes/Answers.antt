use Rattle.report_totals.specs.Mixings.{mixes-is}
use Rattle.report_totals.proofs.mixed.mixes.Goals as goal

pub returns : goal.returns
returns c = mixes-is _ _ _ _ _ c.first_out-first.ensures
