use native.Mathlib.Omega.{arith}
use Rattle.sheet_text.specs.Put.{put-len}
use Rattle.npy_writing.specs.Front.{tuple-put}
use Rattle.npy_writing.proofs.put_tuple.Goals as goal

pub put_byte-requires : goal.put_byte-requires
put_byte-requires c =
    omega (
      arith,
      c.put_byte-a.ensures.behind,
      put-len c.put_byte-a.ensures,
      c.put_numbers-b.ensures.most,
      put-len c.put_numbers-b.ensures.put,
      (c.put_closing-c.ensures c.args.n c.requires.fact_1.long c.requires.fact_1.few).most,
      put-len (c.put_closing-c.ensures c.args.n c.requires.fact_1.long c.requires.fact_1.few).put,
      c.requires.fact_2,
    )

pub returns : goal.returns
returns c =
    tuple-put _ c.put_byte-a.ensures c.put_numbers-b.ensures
    (c.put_closing-c.ensures c.args.n c.requires.fact_1.long
    c.requires.fact_1.few) c.put_byte.ensures
