use Rattle.model_forecast.specs.Shares.{total_text}
use Rattle.report_totals.proofs.share.put_total.Goals as goal

pub returns-then-is_total : goal.returns-then-is_total
unfolding total_text
returns-then-is_total c =
    rw (← c.is_total.ensures, c.if-is_total.true) c.put_shares.ensures

pub returns : goal.returns
unfolding total_text
returns c =
    rw (← c.is_total.ensures, c.if-is_total.false) c.put_no_parts.ensures
