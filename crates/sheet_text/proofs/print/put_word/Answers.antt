use Rattle.sheet_text.specs.Put.{put-len, table_none, table_more}
use native.Mathlib.Omega.{arith}
use mathlib.Core.Path.{◌≡◌}
use Rattle.sheet_text.proofs.print.put_word.Goals as goal

pub loop-k-init : goal.loop-k-init
loop-k-init c = table_none _ _ _ _ (omega arith)

pub bounds-to-at : goal.bounds-to-at
bounds-to-at c = omega (arith, put-len c.loop-k.invariant.put)

pub loop-k-preserved : goal.loop-k-preserved
loop-k-preserved c = table_more c.loop-k.invariant c.hex_digit.ensures c.loop-k-test.true (omega arith)

pub shape_of-to : goal.shape_of-to
shape_of-to c = put-len c.loop-k.invariant.put

pub returns : goal.returns
returns c =
    let e : c.loop-k.k ≡ 16 = omega (arith, c.loop-k.invariant.most) in
    rw e at c.loop-k.invariant.put
