use native.Mathlib.Omega.{arith}
use lib.Dec.{leb}
use borrow.Author.Tests.{leb-true}
use Rattle.lists.specs.Test.{and_left, and_right}
use Rattle.decimals_reading.specs.Scanned.{pushed}
use Rattle.decimals_reading.proofs.scanning.push.Goals as goal

pub overflow_sub-b : goal.overflow_sub-b
overflow_sub-b c = leb-true 48 c.args.b (and_left _ (leb c.args.b 57) c.if-b.true)

pub push_digit-requires : goal.push_digit-requires
push_digit-requires c =
    let b = c.args.b in
    omega (arith, leb-true b 57 (and_right (leb 48 b) (leb b 57) c.if-b.true))

pub returns-then-b : goal.returns-then-b
unfolding pushed
returns-then-b c = rw c.if-b.true c.push_digit.ensures

pub returns-then-b-stage : goal.returns-then-b-stage
unfolding pushed
returns-then-b-stage c = rw (c.if-b.false, c.if-b-stage.true)

pub returns : goal.returns
unfolding pushed
returns c = rw (c.if-b.false, c.if-b-stage.false) c.no_number.ensures
