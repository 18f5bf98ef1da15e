use native.Mathlib.Omega.{arith}
use Rattle.lists.specs.Bytes.{bytes}
use Rattle.report_lines.specs.Puts.{puts_then}
use Rattle.decimals.specs.Digits.{text-none, text-some}
use Rattle.decimals.proofs.print.put_billionths.Goals as goal

pub returns-then-exact-whole : goal.returns-then-exact-whole
unfolding bytes
returns-then-exact-whole c =
    rw (text-none c.args.minus c.args.n.exact c.args.n.whole c.args.n.part (omega arith) c.if-exact-whole.true)
    c.put_either.ensures

pub returns : goal.returns
unfolding bytes
returns c =
    rw (text-some c.args.minus c.args.n.exact c.args.n.whole c.args.n.part (omega arith) c.if-exact-whole.false) (puts_then
    c.put_if-marked.ensures (puts_then c.put_if-signed.ensures (puts_then c.put_number-next.ensures c.put_point.ensures)))
