use Rattle.report_lines.specs.Puts.{puts_then}
use Rattle.model_texts.specs.Report.{limit_text}
use Rattle.report_lines.proofs.why.put_limit.Goals as goal

pub returns : goal.returns
unfolding limit_text
returns c =
    rw (← c.limit_at-limit.ensures, ← c.lowerer-step.ensures, ← c.step_word.ensures, ← c.step_of-n.ensures)
    (rw (← c.source_of-from.ensures) (puts_then
    c.put_number-next.ensures
    c.put_lowered.ensures))
