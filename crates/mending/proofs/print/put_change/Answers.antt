use native.Mathlib.Omega.{arith}
use mathlib.Core.List.{append_assoc}
use Rattle.sheet_text.specs.Put.{put_then}
use Rattle.mending.specs.Changes.{one_text, four-digits, digits-length, room-left}
use Rattle.mending.proofs.print.put_change.Goals as goal

pub put_decimal-a-requires : goal.put_decimal-a-requires
put_decimal-a-requires c =
    omega (arith, four-digits c.args.line c.requires.fact_1.0)

pub put_byte-b-requires : goal.put_byte-b-requires
put_byte-b-requires c =
    let p1 = room-left 4 35 (four-digits c.args.line c.requires.fact_1.0) c.put_decimal-a.ensures c.requires.fact_2 in
    omega (arith, p1)

pub put_digits-c-requires : goal.put_digits-c-requires
put_digits-c-requires c =
    let p1 = room-left 4 35 (four-digits c.args.line c.requires.fact_1.0) c.put_decimal-a.ensures
    c.requires.fact_2 in
    let p2 = room-left 1 34 (omega arith) c.put_byte-b.ensures p1 in
    record { fact_1 = c.requires.fact_1.1; fact_2 = omega (arith, p2) }

pub put_byte-d-requires : goal.put_byte-d-requires
put_byte-d-requires c =
    let p1 = room-left 4 35 (four-digits c.args.line c.requires.fact_1.0) c.put_decimal-a.ensures
    c.requires.fact_2 in
    let p2 = room-left 1 34 (omega arith) c.put_byte-b.ensures p1 in
    let p3 = room-left 16 18 (digits-length c.args.text.now c.args.from) c.put_digits-c.ensures p2 in
    omega (arith, p3)

pub put_line-requires : goal.put_line-requires
put_line-requires c =
    let p1 = room-left 4 35 (four-digits c.args.line c.requires.fact_1.0) c.put_decimal-a.ensures
    c.requires.fact_2 in
    let p2 = room-left 1 34 (omega arith) c.put_byte-b.ensures p1 in
    let p3 = room-left 16 18 (digits-length c.args.text.now c.args.from) c.put_digits-c.ensures p2 in
    room-left 1 17 (omega arith) c.put_byte-d.ensures p3

pub returns : goal.returns
unfolding one_text
returns c =
    let a = put_then c.put_decimal-a.ensures c.put_byte-b.ensures in
    let b = put_then a c.put_digits-c.ensures in
    simp append_assoc at (put_then (put_then b c.put_byte-d.ensures) c.put_line.ensures)
