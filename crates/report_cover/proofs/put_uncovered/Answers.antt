use Rattle.report_lines.specs.Puts.{puts_then}
use Rattle.lists.specs.Bytes.{bytes}
use Rattle.model_forecast.specs.Covered.{uncovered_text}
use Rattle.report_cover.proofs.put_uncovered.Goals as goal

pub returns : goal.returns
unfolding uncovered_text bytes
returns c =
    puts_then c.put-a.ensures (puts_then c.put_float-b.ensures (puts_then c.put-c.ensures c.put_short.ensures))
