use Rattle.lists.specs.Bytes.{bytes}
use Rattle.model_forecast.specs.Shares.{origin_text}
use Rattle.report_totals.proofs.share.put_origin.Goals as goal

pub returns : goal.returns
unfolding origin_text bytes
returns c = c.put_either.ensures
