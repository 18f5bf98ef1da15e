use Rattle.lists.specs.Bytes.{bytes}
use Rattle.report_lines.specs.Puts.{puts_none, puts_then}
use Rattle.model_texts.specs.Report.{needs_line}
use Rattle.report_lines.proofs.cuts.put_needs.Goals as goal

pub returns-then-passes : goal.returns-then-passes
unfolding needs_line bytes
returns-then-passes c =
    rw (
      ← c.passes.ensures,
      c.if-passes.true,
      ← c.full_at.ensures,
      ← c.limit_at.ensures,
      ← c.source_of.ensures,
    ) (puts_then c.put_needs_front-a.ensures
    (puts_then c.put-b.ensures
    c.put_limit_has.ensures))

pub returns : goal.returns
unfolding needs_line
returns c = rw (← c.passes.ensures, c.if-passes.false) (puts_none _ _)
