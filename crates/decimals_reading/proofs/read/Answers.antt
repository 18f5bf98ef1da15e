use native.Mathlib.Omega.{arith}
use Rattle.decimals_reading.specs.Scanned.{scanning-none, scanning-more}
use Rattle.decimals_reading.specs.Exactly.{read_number, read-refused}
use Rattle.decimals_reading.proofs.read.Goals as goal

pub loop-b-init : goal.loop-b-init
loop-b-init c = scanning-none _

pub loop-b-preserved : goal.loop-b-preserved
loop-b-preserved c =
    scanning-more c.args.text.now c.loop-b.invariant c.loop-b-test.true c.push-s.ensures

pub quotient-requires : goal.quotient-requires
quotient-requires c = (omega (arith, c.loop-b.invariant.bounded.small), omega (arith, c.loop-b.invariant.bounded.few))

pub returns-then-stage : goal.returns-then-stage
returns-then-stage c =
    read_number c.args.text.now c.loop-b.invariant c.loop-b-test.false c.if-stage.true c.quotient.ensures

pub returns : goal.returns
returns c =
    read-refused c.args.text.now c.loop-b.invariant c.loop-b-test.false c.if-stage.false
