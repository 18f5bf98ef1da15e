use Rattle.report_lines.specs.Puts.{puts_then}
use Rattle.lists.specs.Bytes.{bytes}
use Rattle.model_forecast.specs.Covered.{cut_by_text}
use Rattle.report_cover.proofs.put_cut_by.Goals as goal

pub returns : goal.returns
unfolding cut_by_text bytes
returns c =
    rw (
      ← c.first_passing-v.ensures.is,
      ← c.decider-by.ensures,
    ) (puts_then c.tell-a.ensures (puts_then c.put-b.ensures (puts_then c.put_place_kind-c.ensures c.put.ensures)))
