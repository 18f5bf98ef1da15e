use Rattle.lists.specs.Bytes.{bytes}
use borrow.Author.Tests.{lt-ltb, le-ltb}
use Rattle.model_texts.specs.Report.{what_text}
use Rattle.report_lines.proofs.lines.put_what.Goals as goal

pub returns-then-p-inputs : goal.returns-then-p-inputs
unfolding what_text bytes
returns-then-p-inputs c = rw (lt-ltb _ _ c.if-p-inputs.true) c.put.ensures

pub returns : goal.returns
unfolding what_text
returns c =
    rw (
      le-ltb _ _ c.if-p-inputs.false,
      ← c.step_word.ensures,
    ) c.put_step.ensures
