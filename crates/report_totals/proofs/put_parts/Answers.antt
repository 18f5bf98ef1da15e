use Rattle.model_forecast.specs.Reckoned.{parts_text}
use Rattle.report_totals.proofs.put_parts.Goals as goal

pub returns : goal.returns
unfolding parts_text
returns c = rw (← c.is_total.ensures) c.put_figures.ensures
