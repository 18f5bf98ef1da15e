use native.Mathlib.Omega.{arith}
use Rattle.sheet_text.specs.Put.{put-len}
use Rattle.sheet_text.specs.Texts.{floats-none, floats-next, floats-put, floats_end}
use Rattle.sheet_text.proofs.print.put_floats.Goals as goal

pub loop-x-init : goal.loop-x-init
loop-x-init c = floats-none _ _ _ (omega arith)

pub put_line-next-requires : goal.put_line-next-requires
put_line-next-requires c =
    omega (arith, floats-next c.loop-x.invariant, put-len c.loop-x.invariant.put)

pub loop-x-preserved : goal.loop-x-preserved
loop-x-preserved c =
    floats-put c.loop-x.invariant
    c.loop-x-test.true
    c.word_of.ensures c.put_line-next.ensures

pub shape_of-to : goal.shape_of-to
shape_of-to c = put-len c.loop-x.invariant.put

pub returns : goal.returns
returns c = floats_end c.loop-x.invariant c.loop-x-test.false
