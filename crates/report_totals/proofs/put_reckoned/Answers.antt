use Rattle.report_lines.specs.Puts.{puts_then}
use Rattle.model_forecast.specs.Reckoned.{reckoned_text}
use Rattle.report_totals.proofs.put_reckoned.Goals as goal

pub put_parts-requires : goal.put_parts-requires
put_parts-requires c =
    c.requires.full

pub returns : goal.returns
unfolding reckoned_text
returns c =
    rw (
      ← c.first_mixed-mixed.ensures,
      ← c.sums_of-s.ensures,
      ← c.used_total-total.ensures,
    )
    (puts_then c.put_mixed-a.ensures (puts_then c.put_totals-b.ensures
    (puts_then c.put_chance-c.ensures c.put_parts.ensures)))
