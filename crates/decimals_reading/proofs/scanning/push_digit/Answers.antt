use native.Mathlib.Omega.{arith}
use lib.Dec.{ltb}
use borrow.Author.Tests.{lt-ltb, le-ltb, le-leb, lt-leb, ltb-true}
use Rattle.lists.specs.Test.{and_right}
use Rattle.decimals_reading.proofs.scanning.push_digit.Goals as goal

pub returns-then-size-ge100000000000000 : goal.returns-then-size-ge100000000000000
returns-then-size-ge100000000000000 c = rw (le-leb _ _ c.if-size-ge100000000000000.true) c.no_number.ensures

pub returns-then-stage-lt2 : goal.returns-then-stage-lt2
returns-then-stage-lt2 c = rw (lt-leb _ _ c.if-size-ge100000000000000.false, lt-ltb _ _ c.if-stage-lt2.true)

pub overflow_add-result : goal.overflow_add-result
overflow_add-result c =
    let s = c.args.s in
    omega (arith, ltb-true s.places 22 (and_right (ltb s.stage 4) (ltb s.places 22) c.if-stage-places.true))

pub returns-then-stage-places : goal.returns-then-stage-places
returns-then-stage-places c = rw (lt-leb _ _ c.if-size-ge100000000000000.false, le-ltb _ _ c.if-stage-lt2.false, c.if-stage-places.true)

pub returns : goal.returns
returns c =
    rw (lt-leb _ _ c.if-size-ge100000000000000.false, le-ltb _ _ c.if-stage-lt2.false, c.if-stage-places.false) c.no_number-2.ensures
