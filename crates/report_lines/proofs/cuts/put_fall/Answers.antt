use Rattle.report_lines.specs.Puts.{puts_none, puts_then}
use Rattle.model_texts.specs.Report.{falls_line}
use Rattle.report_lines.proofs.cuts.put_fall.Goals as goal

pub returns-then-is_cut : goal.returns-then-is_cut
unfolding falls_line
returns-then-is_cut c =
    rw (
      ← c.step_word-word.ensures,
      ← c.is_cut.ensures,
      c.if-is_cut.true,
      ← c.cut_operand-operand.ensures,
      ← c.limit_at-limit.ensures,
      ← c.limit_at-lower.ensures,
      ← c.follow-other.ensures,
    ) (puts_then c.put_variable-next.ensures c.put_falls.ensures)

pub returns : goal.returns
unfolding falls_line
returns c = rw (← c.step_word-word.ensures, ← c.is_cut.ensures, c.if-is_cut.false) (puts_none _ _)
