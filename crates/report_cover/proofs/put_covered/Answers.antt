use Rattle.report_lines.specs.Puts.{puts_then}
use Rattle.lists.specs.Bytes.{bytes}
use Rattle.model_forecast.specs.Covered.{covered_text}
use Rattle.report_cover.proofs.put_covered.Goals as goal

pub returns : goal.returns
unfolding covered_text bytes
returns c =
    puts_then c.put_number-a.ensures (puts_then c.put_either-b.ensures (puts_then c.put_float-c.ensures c.put.ensures))
