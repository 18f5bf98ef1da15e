use native.Mathlib.Omega.{arith}
use Prim.Native.Nat.{◌-◌}
use Rattle.sheet_text.specs.Put.{put-len}
use Rattle.npy_writing.specs.Front.{front-put}
use Prim.Native.Nat.{ℕ}
use Rattle.lists.specs.Table.{length-table}
use Rattle.npy_writing.proofs.put_front.Goals as goal

pub put_byte-requires : goal.put_byte-requires
put_byte-requires c =
    omega (
      arith,
      put-len c.put_start-a.ensures.put,
      c.put_start-a.ensures.most,
      c.put_dict-b.ensures.most,
      put-len c.put_dict-b.ensures.put,
      c.put_spaces-c.ensures.behind,
      put-len c.put_spaces-c.ensures,
      length-table {A = ℕ} (λ k. 32) (127 - c.put_dict-b.result),
      c.requires.fact_2,
    )

pub returns : goal.returns
returns c =
    front-put _ _ c.put_start-a.ensures c.put_dict-b.ensures
    c.put_spaces-c.ensures c.put_byte.ensures
