use native.Mathlib.Omega.{arith}
use Rattle.mending.specs.Lines.{lining-small, lining-stop, lining-more, lining_end, end-most}
use Rattle.mending.proofs.reading.all_lined.Goals as goal

pub is_old_line-requires : goal.is_old_line-requires
is_old_line-requires c = omega (arith, lining-small c.loop.invariant)

pub returns-then-not-is_old_line : goal.returns-then-not-is_old_line
returns-then-not-is_old_line c =
    lining-stop c.loop.invariant c.loop-test.true c.is_old_line.ensures c.if-not-is_old_line.true

pub line_end-at-requires : goal.line_end-at-requires
line_end-at-requires c = omega (arith, lining-small c.loop.invariant)

pub overflow_add-at : goal.overflow_add-at
overflow_add-at c =
    omega (arith, lining-small c.loop.invariant, c.line_end-at.ensures, end-most c.args.text.now c.loop.at)

pub loop-preserved : goal.loop-preserved
loop-preserved c =
    lining-more c.loop.invariant c.loop-test.true c.is_old_line.ensures c.if-not-is_old_line.false c.line_end-at.ensures

pub returns : goal.returns
returns c = lining_end c.loop.invariant c.loop-test.false
