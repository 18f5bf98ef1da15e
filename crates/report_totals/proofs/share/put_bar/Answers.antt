use Rattle.report_lines.specs.Puts.{puts_then}
use Rattle.lists.specs.Bytes.{bytes}
use Rattle.model_forecast.specs.Shares.{bar_text}
use Rattle.report_totals.proofs.share.put_bar.Goals as goal

pub returns : goal.returns
unfolding bar_text bytes
returns c =
    puts_then c.tell-a.ensures (puts_then c.put-b.ensures (puts_then c.put_kind-c.ensures (puts_then c.put-d.ensures
    c.put_if.ensures)))
