use borrow.Author.Tests.{lt-ltb, le-ltb}
use Rattle.report_lines.specs.Puts.{puts_none, puts_then}
use Rattle.lists.specs.Bytes.{bytes}
use Rattle.model_figures.specs.Figures.{part_text}
use Rattle.report_figures.proofs.line.put_part.Goals as goal

pub returns-then-v-vars : goal.returns-then-v-vars
unfolding part_text bytes
returns-then-v-vars c =
    rw (lt-ltb _ _ c.if-v-vars.true) (puts_then c.put_if-next.ensures c.put_number.ensures)

pub returns : goal.returns
unfolding part_text
returns c = rw (le-ltb _ _ c.if-v-vars.false) (puts_none _ _)
