use Rattle.lists.specs.Bytes.{bytes}
use Rattle.report_lines.specs.Puts.{puts_then}
use Rattle.model_texts.specs.Report.{decider_text}
use Rattle.report_lines.proofs.why.put_decider.Goals as goal

pub returns : goal.returns
unfolding decider_text bytes
returns c =
    rw (← c.decider-by.ensures) (puts_then c.put-next.ensures c.put_place_kind.ensures)
