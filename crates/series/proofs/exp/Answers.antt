use Rattle.model.specs.Series.{exp_answer, exp_out, series_scratch}
use Rattle.series.proofs.exp.Goals as goal

pub returns : goal.returns
unfolding exp_answer exp_out series_scratch
returns c = (c.series.ensures.answer, (c.series.ensures.written, c.series.ensures.cleared))
