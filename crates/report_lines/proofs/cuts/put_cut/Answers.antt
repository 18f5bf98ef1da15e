use Rattle.report_lines.specs.Puts.{puts_then}
use borrow.Author.Tests.{lt-ltb, le-ltb}
use Rattle.model_texts.specs.Report.{cut_text}
use Rattle.report_lines.proofs.cuts.put_cut.Goals as goal

pub returns-then-p-inputs : goal.returns-then-p-inputs
unfolding cut_text
returns-then-p-inputs c = rw (lt-ltb _ _ c.if-p-inputs.true) c.put_fills.ensures

pub returns : goal.returns
unfolding cut_text
returns c =
    rw (le-ltb _ _ c.if-p-inputs.false) (puts_then c.put_fall-next.ensures c.put_needs.ensures)
