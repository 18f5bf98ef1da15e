use Rattle.report_lines.specs.Puts.{puts_none, puts_then}
use Rattle.model_texts.specs.Report.{fills_line}
use Rattle.report_lines.proofs.cuts.put_fills.Goals as goal

pub returns-then-has-head_at : goal.returns-then-has-head_at
unfolding fills_line
returns-then-has-head_at c =
    rw (← c.has.ensures, ← c.limit_at-limit.ensures, ← c.head_at.ensures, c.if-has-head_at.true)
    (puts_then c.put_variable-next.ensures
    c.put_filled.ensures)

pub returns : goal.returns
unfolding fills_line
returns c =
    rw (
      ← c.has.ensures,
      ← c.limit_at-limit.ensures,
      ← c.head_at.ensures,
      c.if-has-head_at.false,
    ) (puts_none _ _)
