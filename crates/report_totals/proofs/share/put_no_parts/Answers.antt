use Rattle.report_lines.specs.Puts.{puts_then}
use Rattle.lists.specs.Bytes.{bytes}
use Rattle.model_forecast.specs.Shares.{no_parts_text}
use Rattle.report_totals.proofs.share.put_no_parts.Goals as goal

pub returns : goal.returns
unfolding no_parts_text bytes
returns c =
    puts_then c.put-a.ensures (puts_then c.put_origin-b.ensures (puts_then c.put-c.ensures (puts_then c.put_float-d.ensures c.put.ensures)))
