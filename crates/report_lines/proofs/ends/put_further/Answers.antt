use Rattle.lists.specs.Bytes.{bytes}
use Rattle.report_lines.specs.Puts.{puts_none, puts_then}
use borrow.Author.Tests.{lt-ltb, le-ltb}
use Rattle.model_texts.specs.Report.{further_text}
use Rattle.report_lines.proofs.ends.put_further.Goals as goal

pub returns-then-source_of-limit : goal.returns-then-source_of-limit
unfolding further_text bytes
returns-then-source_of-limit c =
    rw (← c.furthest-far.ensures, ← c.limit_at-limit.ensures, ← c.source_of.ensures, lt-ltb _ _ c.if-source_of-limit.true)
    (puts_then c.tell-next.ensures
    c.tell.ensures)

pub returns : goal.returns
unfolding further_text bytes
returns c =
    rw (
      ← c.furthest-far.ensures,
      ← c.limit_at-limit.ensures,
      ← c.source_of.ensures,
      le-ltb _ _ c.if-source_of-limit.false,
    ) (puts_none _ _)
