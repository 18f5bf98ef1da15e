use native.Mathlib.Omega.{arith}
use Prim.Native.Nat.{◌+◌}
use Rattle.sheet_text.specs.Put.{put_front_lem, put-len, put_then}
use Rattle.mending.specs.Changes.{changes-most}
use Rattle.mending.specs.Ended.{Mends, not-readable, few, taken, taken-few, known, not_within, can-mend}
use Rattle.mending.proofs.mend.Goals as goal

pub returns-then-not-is_readable : goal.returns-then-not-is_readable
returns-then-not-is_readable c =
    let p = put_front_lem c.put_refusal.ensures in
    rw (not-readable c.is_readable.ensures c.if-not-is_readable.true c.by.ensures)
    (p.0, (omega (arith, c.put_refusal.ensures.fits), p.1))

pub slice_bounds-headers-end : goal.slice_bounds-headers-end
slice_bounds-headers-end c = omega (
  arith,
  few c.is_readable.ensures c.if-not-is_readable.false
      c.input_count-inputs.ensures (omega (arith, c.is_readable.ensures.len)),
)

pub slice_bounds-total_of-end : goal.slice_bounds-total_of-end
slice_bounds-total_of-end c =
    taken c.is_readable.ensures c.if-not-is_readable.false
    c.input_count-inputs.ensures (omega (arith, c.is_readable.ensures.len))

pub total_of-count-requires : goal.total_of-count-requires
total_of-count-requires c = record {
  fact_1 = known c.is_readable.ensures c.if-not-is_readable.false
      c.input_count-inputs.ensures (omega (arith, c.is_readable.ensures.len));
  fact_2 = taken-few c.is_readable.ensures c.if-not-is_readable.false
      c.input_count-inputs.ensures (omega (arith, c.is_readable.ensures.len));
}

pub slice_bounds-headers-end-2 : goal.slice_bounds-headers-end-2
slice_bounds-headers-end-2 c =
    omega (
      arith,
      few c.is_readable.ensures c.if-not-is_readable.false
          c.input_count-inputs.ensures (omega (arith, c.is_readable.ensures.len)),
    )

pub slice_bounds-largest_of-end : goal.slice_bounds-largest_of-end
slice_bounds-largest_of-end c =
    taken c.is_readable.ensures c.if-not-is_readable.false
    c.input_count-inputs.ensures (omega (arith, c.is_readable.ensures.len))

pub largest_of-requires : goal.largest_of-requires
largest_of-requires c =
    known c.is_readable.ensures c.if-not-is_readable.false
    c.input_count-inputs.ensures (omega (arith, c.is_readable.ensures.len))

pub returns-then-not-largest_of-count : goal.returns-then-not-largest_of-count
returns-then-not-largest_of-count c =
    let p = put_front_lem c.put_refusal-then-not-largest_of-count.ensures in
    rw (not_within c.is_readable.ensures c.if-not-is_readable.false
    c.input_count-inputs.ensures (omega (arith, c.is_readable.ensures.len))
    c.total_of-count.ensures c.largest_of.ensures c.if-not-largest_of-count.true c.by-then-not-largest_of-count.ensures)
    (p.0, (omega (arith, c.put_refusal-then-not-largest_of-count.ensures.fits), p.1))

pub overflow_add-lines : goal.overflow_add-lines
overflow_add-lines c =
    omega (
      arith,
      few c.is_readable.ensures c.if-not-is_readable.false
          c.input_count-inputs.ensures (omega (arith, c.is_readable.ensures.len)),
    )

pub overflow_add-lines-2 : goal.overflow_add-lines-2
overflow_add-lines-2 c =
    let sure : Mends c.args.text.now
    c.input_count-inputs.result c.total_of-count.result
    (1 + c.input_count-inputs.result
    + (c.total_of-count.result + c.step_count.result)) =
    can-mend c.is_readable.ensures c.if-not-is_readable.false
    c.input_count-inputs.ensures (omega (arith, c.is_readable.ensures.len))
    c.total_of-count.ensures c.largest_of.ensures c.if-not-largest_of-count.false
    c.step_count.ensures in
    let m = sure in omega (arith, m.most, m.lines)

pub overflow_add-lines-3 : goal.overflow_add-lines-3
overflow_add-lines-3 c =
    let sure : Mends c.args.text.now
    c.input_count-inputs.result c.total_of-count.result
    (1 + c.input_count-inputs.result
    + (c.total_of-count.result + c.step_count.result)) =
    can-mend c.is_readable.ensures c.if-not-is_readable.false
    c.input_count-inputs.ensures (omega (arith, c.is_readable.ensures.len))
    c.total_of-count.ensures c.largest_of.ensures c.if-not-largest_of-count.false
    c.step_count.ensures in
    let m = sure in omega (arith, m.most, m.lines)

pub put_changes-next-requires : goal.put_changes-next-requires
put_changes-next-requires c =
    let sure : Mends c.args.text.now
    c.input_count-inputs.result c.total_of-count.result
    (1 + c.input_count-inputs.result
    + (c.total_of-count.result + c.step_count.result)) =
    can-mend c.is_readable.ensures c.if-not-is_readable.false
    c.input_count-inputs.ensures (omega (arith, c.is_readable.ensures.len))
    c.total_of-count.ensures c.largest_of.ensures c.if-not-largest_of-count.false
    c.step_count.ensures in
    let m = sure in record { fact_1 = (m.few, (m.most, m.lines)); fact_2 = omega arith }

pub put_sheet-requires : goal.put_sheet-requires
put_sheet-requires c =
    let sure : Mends c.args.text.now
    c.input_count-inputs.result c.total_of-count.result
    (1 + c.input_count-inputs.result
    + (c.total_of-count.result + c.step_count.result)) =
    can-mend c.is_readable.ensures c.if-not-is_readable.false
    c.input_count-inputs.ensures (omega (arith, c.is_readable.ensures.len))
    c.total_of-count.ensures c.largest_of.ensures c.if-not-largest_of-count.false
    c.step_count.ensures in
    let m = sure in
    record {
      fact_1 = (m.few, (m.most, m.lines));
      fact_2 = omega (
        arith,
        changes-most c.args.text.now c.input_count-inputs.result c.total_of-count.result _
            m.lines,
        c.put_changes-next.ensures.behind,
        put-len c.put_changes-next.ensures,
      );
    }

pub returns : goal.returns
returns c =
    let sure : Mends c.args.text.now
    c.input_count-inputs.result c.total_of-count.result
    (1 + c.input_count-inputs.result
    + (c.total_of-count.result + c.step_count.result)) =
    can-mend c.is_readable.ensures c.if-not-is_readable.false
    c.input_count-inputs.ensures (omega (arith, c.is_readable.ensures.len))
    c.total_of-count.ensures c.largest_of.ensures c.if-not-largest_of-count.false
    c.step_count.ensures in
    let q = put_then c.put_changes-next.ensures c.put_sheet.ensures in
    let p = put_front_lem q in
    rw (sure).text (p.0, (omega (arith, q.fits), p.1))
