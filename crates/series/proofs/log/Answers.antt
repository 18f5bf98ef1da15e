use Rattle.model.specs.Series.{log_answer, log_out, series_scratch}
use Rattle.series.proofs.log.Goals as goal

pub returns : goal.returns
unfolding log_answer log_out series_scratch
returns c = (c.series.ensures.answer, (c.series.ensures.written, c.series.ensures.cleared))
