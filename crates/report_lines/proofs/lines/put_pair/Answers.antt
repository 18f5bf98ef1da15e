use Rattle.lists.specs.Bytes.{bytes}
use borrow.Author.Tests.{lt-ltb, le-ltb}
use Rattle.report_lines.specs.Puts.{puts_none, puts_then}
use Rattle.model_texts.specs.Report.{pair_text}
use Rattle.report_lines.proofs.lines.put_pair.Goals as goal

pub returns-then-v-h : goal.returns-then-v-h
unfolding pair_text bytes
returns-then-v-h c =
    rw (lt-ltb _ _ c.if-v-h.true) (puts_then c.tell-next.ensures c.tell.ensures)

pub returns : goal.returns
unfolding pair_text
returns c = rw (le-ltb _ _ c.if-v-h.false) (puts_none _ _)
