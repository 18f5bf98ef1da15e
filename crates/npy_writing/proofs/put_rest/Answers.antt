use native.Mathlib.Omega.{arith}
use Rattle.sheet_text.specs.Put.{put-len}
use Rattle.npy_writing.specs.Front.{two_digits, rest-none, rest_more, rest_end}
use Rattle.npy_writing.proofs.put_rest.Goals as goal

pub loop-k-init : goal.loop-k-init
loop-k-init c = rest-none c.requires.fact_1 _ _ c.requires.fact_2.0 (omega arith)

pub put_bytes-next-requires : goal.put_bytes-next-requires
put_bytes-next-requires c =
    omega (arith, c.loop-k.invariant.room, c.loop-k.invariant.most, put-len c.loop-k.invariant.put, c.requires.fact_1.few)

pub put_decimal-next-requires : goal.put_decimal-next-requires
put_decimal-next-requires c =
    omega (
      arith,
      c.loop-k.invariant.room,
      put-len c.loop-k.invariant.put,
      put-len c.put_bytes-next.ensures,
      c.put_bytes-next.ensures.behind,
      c.requires.fact_1.few,
      two_digits _ (c.requires.fact_1.small c.loop-k.k),
    )

pub loop-k-preserved : goal.loop-k-preserved
loop-k-preserved c =
    rest_more c.requires.fact_1 _ _ c.loop-k.invariant c.loop-k-test.true
    c.put_bytes-next.ensures
    c.put_decimal-next.ensures

pub returns : goal.returns
returns c = rest_end c.requires.fact_1 _ _ c.loop-k.invariant c.loop-k-test.false
