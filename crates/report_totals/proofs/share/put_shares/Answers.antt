use Rattle.report_lines.specs.Puts.{puts_then}
use Rattle.lists.specs.Bytes.{bytes}
use Rattle.model_forecast.specs.Shares.{shares_text}
use Rattle.report_totals.proofs.share.put_shares.Goals as goal

pub returns : goal.returns
unfolding shares_text bytes
returns c =
    puts_then c.put-a.ensures (puts_then c.put_float-b.ensures (puts_then c.put-c.ensures (puts_then c.put_origin-d.ensures
    (puts_then c.put-e.ensures (puts_then c.put_float-f.ensures (puts_then c.put-g.ensures c.put_lost.ensures))))))
