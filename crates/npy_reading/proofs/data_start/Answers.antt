use native.Mathlib.Omega.{arith}
use Rattle.npy_reading.specs.Opening.{end-one, end-two, some-framed}
use Rattle.npy_reading.proofs.data_start.Goals as goal

pub little_2-requires : goal.little_2-requires
little_2-requires c = omega (arith, c.requires.inside, c.requires.from)

pub overflow_add-little_2 : goal.overflow_add-little_2
overflow_add-little_2 c = omega (arith, c.little_2.ensures.1)

pub returns-then-begin-eq10 : goal.returns-then-begin-eq10
returns-then-begin-eq10 c =
    some-framed c.args.file.now c.requires (end-one c.args.file.now c.requires c.if-begin-eq10.true c.little_2.ensures.0)
    c.within.ensures

pub little_4-requires : goal.little_4-requires
little_4-requires c = omega (arith, c.requires.inside, c.requires.twelve c.if-begin-eq10.false)

pub overflow_add-little_4 : goal.overflow_add-little_4
overflow_add-little_4 c = omega (arith, c.little_4.ensures.1)

pub returns : goal.returns
returns c =
    some-framed c.args.file.now c.requires (end-two c.args.file.now c.requires c.if-begin-eq10.false c.little_4.ensures.0)
    c.within-2.ensures
