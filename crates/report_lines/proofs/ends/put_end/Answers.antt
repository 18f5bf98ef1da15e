use Rattle.report_lines.specs.Puts.{puts_none}
use Rattle.model_texts.specs.Report.{end_text}
use Rattle.report_lines.proofs.ends.put_end.Goals as goal

pub returns-then-has : goal.returns-then-has
unfolding end_text
returns-then-has c =
    rw (← c.has.ensures, c.if-has.true)
    c.put_end_line.ensures

pub returns : goal.returns
unfolding end_text
returns c = rw (← c.has.ensures, c.if-has.false) (puts_none _ _)
