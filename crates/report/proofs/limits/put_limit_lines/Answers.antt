use Rattle.lists.specs.Bytes.{bytes}
use Rattle.report_lines.specs.Puts.{puts_then}
use Rattle.model_forecast.specs.Told.{limit_lines}
use Rattle.report.proofs.limits.put_limit_lines.Goals as goal

pub returns : goal.returns
unfolding limit_lines bytes
returns c =
    puts_then c.put-a.ensures (puts_then c.put-b.ensures
    (puts_then c.put_places-c.ensures (puts_then c.put_cuts-d.ensures
    c.put_ends.ensures)))
