use Rattle.report_lines.specs.Puts.{puts_then}
use Rattle.lists.specs.Bytes.{bytes}
use Rattle.report_figures.specs.Fill.{fills-gap, gap-short, gap-wide, puts-is}
use Rattle.report_figures.proofs.cell.put_gap.Goals as goal

pub returns-then-used-n : goal.returns-then-used-n
returns-then-used-n c =
    fills-gap c.args.c c.args.n c.args.from c.args.next c.if-next-from.false (puts-is (gap-short _ _ _ c.if-used-n.true) c.put_blanks.ensures)

pub returns : goal.returns
unfolding bytes
returns c =
    fills-gap c.args.c c.args.n c.args.from c.args.next c.if-next-from.false (puts-is (gap-wide _ _ _ c.if-used-n.false)
    (puts_then c.put-below.ensures c.put_blanks-2.ensures))
