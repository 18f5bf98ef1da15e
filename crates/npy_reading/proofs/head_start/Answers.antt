use native.Mathlib.Omega.{arith}
use mathlib.Core.Path.{refl, sym}
use Rattle.npy_reading.specs.Opening.{some-begun, begin-one, begin-two, begin-none}
use Rattle.npy_reading.proofs.head_start.Goals as goal

pub returns-then-starts_with : goal.returns-then-starts_with
returns-then-starts_with c =
    some-begun c.args.file.now (omega arith) c.within.ensures (begin-one c.args.file.now c.starts_with.ensures c.if-starts_with.true refl)

pub returns-then-starts_with-2 : goal.returns-then-starts_with-2
returns-then-starts_with-2 c =
    some-begun c.args.file.now (omega arith) c.within-then-starts_with-2.ensures
    (begin-two c.args.file.now c.starts_with.ensures c.if-starts_with.false c.starts_with-2.ensures c.if-starts_with-2.true refl)

pub returns : goal.returns
returns c =
    sym (begin-none c.args.file.now c.starts_with.ensures c.if-starts_with.false c.starts_with-2.ensures c.if-starts_with-2.false)
