use native.Mathlib.Omega.{arith}
use mathlib.Core.List.{append_assoc}
use Rattle.model_texts.specs.Printed.{refused_text}
use Rattle.sheet_text.specs.Put.{put-len, put_then}
use Rattle.sheet_text.proofs.refused.put_refusal.Goals as goal

pub put_part-b-requires : goal.put_part-b-requires
put_part-b-requires c =
    omega (arith, put-len c.put_bytes-a.ensures, c.put_bytes-a.ensures.behind)

pub put_part-c-requires : goal.put_part-c-requires
put_part-c-requires c =
    omega (arith, put-len c.put_bytes-a.ensures, c.put_bytes-a.ensures.behind, put-len c.put_part-b.ensures.put, c.put_part-b.ensures.short)

pub put_part-d-requires : goal.put_part-d-requires
put_part-d-requires c =
    omega (
      arith,
      put-len c.put_bytes-a.ensures,
      c.put_bytes-a.ensures.behind,
      put-len c.put_part-b.ensures.put,
      c.put_part-b.ensures.short,
      put-len c.put_part-c.ensures.put,
      c.put_part-c.ensures.short,
    )

pub put_part-requires : goal.put_part-requires
put_part-requires c =
    omega (
      arith,
      c.requires,
      put-len c.put_bytes-a.ensures,
      c.put_bytes-a.ensures.behind,
      put-len c.put_part-b.ensures.put,
      c.put_part-b.ensures.short,
      put-len c.put_part-c.ensures.put,
      c.put_part-c.ensures.short,
      put-len c.put_part-d.ensures.put,
      c.put_part-d.ensures.short,
    )

pub returns : goal.returns
unfolding refused_text
returns c =
    let b = put_then (put_then c.put_bytes-a.ensures c.put_part-b.ensures.put) c.put_part-c.ensures.put in
    simp append_assoc at (put_then (put_then b c.put_part-d.ensures.put) c.put_part.ensures.put)
