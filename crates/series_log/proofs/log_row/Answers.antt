use native.Mathlib.Omega.{arith}
use mathlib.Core.Path.{◌≡◌, refl, sym, ◌∙◌}
use Prim.Native.Nat.{◌+◌, ◌-◌, ◌*◌, ◌<◌}
use lib.ListN.{length}
use borrow.Rule.Slice.PartMut.{put_mid, same_len_mid}
use Rattle.lists.specs.Four.{at}
use Rattle.lists.specs.Part.{length_part}
use Rattle.shape_words.specs.InRow.{in_row}
use Rattle.shape_words.specs.Lengths.{row_small}
use Rattle.shape_words.specs.Strides.{stride-at}
use Rattle.series_log.specs.LogRow.{log-fits}
use Rattle.series_log.specs.LogDone.{log_half, first_in-operand, row-divisor, log_rowed}
use Rattle.series_log.proofs.log_row.Goals as goal

pub overflow_mul-at : goal.overflow_mul-at
overflow_mul-at c =
    let rooms : 8 * length c.args.work.now < 18446744073709551616 =
    omega arith in
    omega (arith, log-fits c.requires.fact_1 c.requires.fact_2, log_half c.requires.fact_1 c.requires.fact_2, c.requires.fact_2.work, rooms)

pub slice_bounds-log_divide-end : goal.slice_bounds-log_divide-end
slice_bounds-log_divide-end c =
    omega (arith, first_in-operand c.requires.fact_1 c.requires.fact_2)

pub overflow_mul-s : goal.overflow_mul-s
overflow_mul-s c =
    let rooms : 8 * length c.args.work.now < 18446744073709551616 =
    omega arith in
    omega (arith, log-fits c.requires.fact_1 c.requires.fact_2, log_half c.requires.fact_1 c.requires.fact_2, c.requires.fact_2.work, rooms)

pub overflow_add-p : goal.overflow_add-p
overflow_add-p c =
    let rooms : 8 * length c.args.work.now < 18446744073709551616 =
    omega arith in
    omega (arith, log-fits c.requires.fact_1 c.requires.fact_2, log_half c.requires.fact_1 c.requires.fact_2, c.requires.fact_2.work, rooms)

pub slice_bounds-log_divide-end-2 : goal.slice_bounds-log_divide-end-2
slice_bounds-log_divide-end-2 c =
    let rooms : 8 * length c.args.work.now < 18446744073709551616 =
    omega arith in
    omega (
      arith,
      log-fits c.requires.fact_1 c.requires.fact_2,
      log_half c.requires.fact_1 c.requires.fact_2,
      c.requires.fact_2.work,
      rooms,
      c.log_gather.ensures.work.len,
    )

pub log_divide-requires : goal.log_divide-requires
log_divide-requires c =
    let rooms : 8 * length c.args.work.now < 18446744073709551616 =
    omega arith in
    let left : length c.log_gather.new.row ≡ in_row c.args.r c.args.v =
    c.log_gather.auto.row ∙ c.requires.fact_2.full in
    let d : 2 * c.args.n + 8 * (at c.args.sr c.args.v) - 2 * c.args.n
    ≡ 8 * (at c.args.sr c.args.v) = omega arith in
    let z : (at c.args.sx c.args.v) - 0 ≡ (at c.args.sx c.args.v) = omega arith in
    row-divisor c.requires.fact_1 c.requires.fact_2 c.after_of-ax.ensures
    c.after_of-ar.ensures
    (length_part 0 (at c.args.sx c.args.v) c.args.xs.now (omega arith)
    (first_in-operand c.requires.fact_1 c.requires.fact_2) ∙ z)
    (length_part (2 * c.args.n) (2 * c.args.n + 8 * (at c.args.sr c.args.v))
    c.log_gather.new.work (omega arith)
    (omega (
      arith,
      log-fits c.requires.fact_1 c.requires.fact_2,
      log_half c.requires.fact_1 c.requires.fact_2,
      c.requires.fact_2.work,
      rooms,
      c.log_gather.ensures.work.len,
    )) ∙ d) (left)

pub divide_by-requires : goal.divide_by-requires
divide_by-requires c =
    row_small c.requires.fact_1.strided.result c.requires.fact_2.some c.requires.fact_2.turn

pub overflow_add-at : goal.overflow_add-at
overflow_add-at c =
    let rooms : 8 * length c.args.work.now < 18446744073709551616 =
    omega arith in
    omega (arith, log-fits c.requires.fact_1 c.requires.fact_2, log_half c.requires.fact_1 c.requires.fact_2, c.requires.fact_2.work, rooms)

pub offset_bounds-work-at : goal.offset_bounds-work-at
offset_bounds-work-at c =
    let rooms : 8 * length c.args.work.now < 18446744073709551616 =
    omega arith in
    omega (arith, log-fits c.requires.fact_1 c.requires.fact_2, log_half c.requires.fact_1 c.requires.fact_2, c.requires.fact_2.work, rooms)

pub slice_bounds-copy-end : goal.slice_bounds-copy-end
slice_bounds-copy-end c =
    let rooms : 8 * length c.args.work.now < 18446744073709551616 =
    omega arith in
    let len2 : length (put_mid (2 * c.args.n) (2 * c.args.n + 8 * (at c.args.sr c.args.v)
    - 2 * c.args.n) c.log_gather.new.work c.log_divide.new.work)
    ≡ length c.args.work.now =
    same_len_mid (2 * c.args.n) (2 * c.args.n + 8 * (at c.args.sr c.args.v)
    - 2 * c.args.n) c.log_gather.new.work c.log_divide.new.work
    c.log_divide.auto.work ∙ c.log_gather.ensures.work.len in
    omega (arith, log-fits c.requires.fact_1 c.requires.fact_2, log_half c.requires.fact_1 c.requires.fact_2, c.requires.fact_2.work, rooms, len2)

pub copy-requires : goal.copy-requires
copy-requires c =
    let rooms : 8 * length c.args.work.now < 18446744073709551616 =
    omega arith in
    let len2 : length (put_mid (2 * c.args.n) (2 * c.args.n + 8 * (at c.args.sr c.args.v)
    - 2 * c.args.n) c.log_gather.new.work c.log_divide.new.work)
    ≡ length c.args.work.now =
    same_len_mid (2 * c.args.n) (2 * c.args.n + 8 * (at c.args.sr c.args.v)
    - 2 * c.args.n) c.log_gather.new.work c.log_divide.new.work
    c.log_divide.auto.work ∙ c.log_gather.ensures.work.len in
    let left : length c.log_gather.new.row ≡ in_row c.args.r c.args.v =
    c.log_gather.auto.row ∙ c.requires.fact_2.full in
    let made : length c.divide_by.new.to ≡ in_row c.args.r c.args.v =
    c.divide_by.auto.to ∙ (c.log_divide.auto.row ∙ left) in
    let e : c.args.k * (at c.args.sr c.args.v) + (at c.args.sr c.args.v)
    - c.args.k * (at c.args.sr c.args.v)
    ≡ (at c.args.sr c.args.v) = omega arith in
    omega (
      arith,
      (length_part (c.args.k * (at c.args.sr c.args.v))
          (c.args.k * (at c.args.sr c.args.v) + (at c.args.sr c.args.v))
          (put_mid (2 * c.args.n) (2 * c.args.n + 8 * (at c.args.sr c.args.v)
          - 2 * c.args.n) c.log_gather.new.work c.log_divide.new.work)
          (omega arith) (omega (
            arith,
            log-fits c.requires.fact_1 c.requires.fact_2,
            log_half c.requires.fact_1 c.requires.fact_2,
            c.requires.fact_2.work,
            rooms,
            len2,
          )) ∙ e),
      made,
      stride-at c.args.r c.requires.fact_1.strided.by_r c.requires.fact_2.some,
    )

pub overflow_add-n : goal.overflow_add-n
overflow_add-n c =
    let rooms : 8 * length c.args.work.now < 18446744073709551616 =
    omega arith in
    omega (arith, log-fits c.requires.fact_1 c.requires.fact_2, log_half c.requires.fact_1 c.requires.fact_2, c.requires.fact_2.work, rooms)

pub overflow_add-n-2 : goal.overflow_add-n-2
overflow_add-n-2 c =
    let rooms : 8 * length c.args.work.now < 18446744073709551616 =
    omega arith in
    omega (arith, log-fits c.requires.fact_1 c.requires.fact_2, log_half c.requires.fact_1 c.requires.fact_2, c.requires.fact_2.work, rooms)

pub overflow_add-n-3 : goal.overflow_add-n-3
overflow_add-n-3 c =
    let rooms : 8 * length c.args.work.now < 18446744073709551616 =
    omega arith in
    omega (arith, log-fits c.requires.fact_1 c.requires.fact_2, log_half c.requires.fact_1 c.requires.fact_2, c.requires.fact_2.work, rooms)

pub offset_bounds-work-n : goal.offset_bounds-work-n
offset_bounds-work-n c =
    let rooms : 8 * length c.args.work.now < 18446744073709551616 =
    omega arith in
    omega (arith, log-fits c.requires.fact_1 c.requires.fact_2, log_half c.requires.fact_1 c.requires.fact_2, c.requires.fact_2.work, rooms)

pub slice_bounds-scale-end : goal.slice_bounds-scale-end
slice_bounds-scale-end c =
    let rooms : 8 * length c.args.work.now < 18446744073709551616 =
    omega arith in
    let len2 : length (put_mid (2 * c.args.n) (2 * c.args.n + 8 * (at c.args.sr c.args.v)
    - 2 * c.args.n) c.log_gather.new.work c.log_divide.new.work)
    ≡ length c.args.work.now =
    same_len_mid (2 * c.args.n) (2 * c.args.n + 8 * (at c.args.sr c.args.v)
    - 2 * c.args.n) c.log_gather.new.work c.log_divide.new.work
    c.log_divide.auto.work ∙ c.log_gather.ensures.work.len in
    let len3 : length (put_mid (c.args.k * (at c.args.sr c.args.v))
    (c.args.k * (at c.args.sr c.args.v) + (at c.args.sr c.args.v)
    - c.args.k * (at c.args.sr c.args.v))
    (put_mid (2 * c.args.n) (2 * c.args.n + 8 * (at c.args.sr c.args.v)
    - 2 * c.args.n) c.log_gather.new.work c.log_divide.new.work)
    c.copy.new.to) ≡ length c.args.work.now =
    same_len_mid (c.args.k * (at c.args.sr c.args.v))
    (c.args.k * (at c.args.sr c.args.v) + (at c.args.sr c.args.v)
    - c.args.k * (at c.args.sr c.args.v))
    (put_mid (2 * c.args.n) (2 * c.args.n + 8 * (at c.args.sr c.args.v)
    - 2 * c.args.n) c.log_gather.new.work c.log_divide.new.work)
    c.copy.new.to c.copy.auto.to ∙ len2 in
    omega (
      arith,
      log-fits c.requires.fact_1 c.requires.fact_2,
      log_half c.requires.fact_1 c.requires.fact_2,
      c.requires.fact_2.work,
      rooms,
      len3,
    )

pub scale-requires : goal.scale-requires
scale-requires c =
    let rooms : 8 * length c.args.work.now < 18446744073709551616 =
    omega arith in
    let len2 : length (put_mid (2 * c.args.n) (2 * c.args.n + 8 * (at c.args.sr c.args.v)
    - 2 * c.args.n) c.log_gather.new.work c.log_divide.new.work)
    ≡ length c.args.work.now =
    same_len_mid (2 * c.args.n) (2 * c.args.n + 8 * (at c.args.sr c.args.v)
    - 2 * c.args.n) c.log_gather.new.work c.log_divide.new.work
    c.log_divide.auto.work ∙ c.log_gather.ensures.work.len in
    let len3 : length (put_mid (c.args.k * (at c.args.sr c.args.v))
    (c.args.k * (at c.args.sr c.args.v) + (at c.args.sr c.args.v)
    - c.args.k * (at c.args.sr c.args.v))
    (put_mid (2 * c.args.n) (2 * c.args.n + 8 * (at c.args.sr c.args.v)
    - 2 * c.args.n) c.log_gather.new.work c.log_divide.new.work)
    c.copy.new.to) ≡ length c.args.work.now =
    same_len_mid (c.args.k * (at c.args.sr c.args.v))
    (c.args.k * (at c.args.sr c.args.v) + (at c.args.sr c.args.v)
    - c.args.k * (at c.args.sr c.args.v))
    (put_mid (2 * c.args.n) (2 * c.args.n + 8 * (at c.args.sr c.args.v)
    - 2 * c.args.n) c.log_gather.new.work c.log_divide.new.work)
    c.copy.new.to c.copy.auto.to ∙ len2 in
    let left : length c.log_gather.new.row ≡ in_row c.args.r c.args.v =
    c.log_gather.auto.row ∙ c.requires.fact_2.full in
    let made : length c.divide_by.new.to ≡ in_row c.args.r c.args.v =
    c.divide_by.auto.to ∙ (c.log_divide.auto.row ∙ left) in
    let f : c.args.n + c.args.k * (at c.args.sr c.args.v)
    + (at c.args.sr c.args.v)
    - (c.args.n + c.args.k * (at c.args.sr c.args.v))
    ≡ (at c.args.sr c.args.v) = omega arith in record {
      fact_1 = row_small c.requires.fact_1.strided.result c.requires.fact_2.some c.requires.fact_2.turn;
      fact_2 = ((length_part (c.args.n + c.args.k * (at c.args.sr c.args.v))
          (c.args.n + c.args.k * (at c.args.sr c.args.v)
          + (at c.args.sr c.args.v))
          (put_mid (c.args.k * (at c.args.sr c.args.v))
          (c.args.k * (at c.args.sr c.args.v) + (at c.args.sr c.args.v)
          - c.args.k * (at c.args.sr c.args.v))
          (put_mid (2 * c.args.n) (2 * c.args.n + 8 * (at c.args.sr c.args.v)
          - 2 * c.args.n) c.log_gather.new.work c.log_divide.new.work)
          c.copy.new.to) (omega arith) (omega (
            arith,
            log-fits c.requires.fact_1 c.requires.fact_2,
            log_half c.requires.fact_1 c.requires.fact_2,
            c.requires.fact_2.work,
            rooms,
            len3,
          )) ∙ f) ∙ (stride-at c.args.r c.requires.fact_1.strided.by_r c.requires.fact_2.some ∙ sym (made)));
    }

pub returns : goal.returns
returns c =
    let rooms : 8 * length c.args.work.now < 18446744073709551616 =
    omega arith in
    let left : length c.log_gather.new.row ≡ in_row c.args.r c.args.v =
    c.log_gather.auto.row ∙ c.requires.fact_2.full in
    let made : length c.divide_by.new.to ≡ in_row c.args.r c.args.v =
    c.divide_by.auto.to ∙ (c.log_divide.auto.row ∙ left) in
    let len2 : length (put_mid (2 * c.args.n) (2 * c.args.n + 8 * (at c.args.sr c.args.v)
    - 2 * c.args.n) c.log_gather.new.work c.log_divide.new.work)
    ≡ length c.args.work.now =
    same_len_mid (2 * c.args.n) (2 * c.args.n + 8 * (at c.args.sr c.args.v)
    - 2 * c.args.n) c.log_gather.new.work c.log_divide.new.work
    c.log_divide.auto.work ∙ c.log_gather.ensures.work.len in
    record {
      rowed = let d : 2 * c.args.n + 8 * (at c.args.sr c.args.v) - 2 * c.args.n
          ≡ 8 * (at c.args.sr c.args.v) = omega arith in
          let e : c.args.k * (at c.args.sr c.args.v) + (at c.args.sr c.args.v)
          - c.args.k * (at c.args.sr c.args.v)
          ≡ (at c.args.sr c.args.v) = omega arith in
          let f : c.args.n + c.args.k * (at c.args.sr c.args.v)
          + (at c.args.sr c.args.v)
          - (c.args.n + c.args.k * (at c.args.sr c.args.v))
          ≡ (at c.args.sr c.args.v) = omega arith in
          log_rowed c.requires.fact_1 c.requires.fact_2 c.args.work.now c.args.xs.now
          c.log_divide.new.work refl c.log_gather.ensures.row c.log_gather.ensures.work
          c.after_of-ax.ensures c.after_of-ar.ensures c.log_divide.ensures.row_after
          (c.log_divide.auto.work
          ∙ (length_part (2 * c.args.n) (2 * c.args.n + 8 * (at c.args.sr c.args.v))
          c.log_gather.new.work (omega arith)
          (omega (
            arith,
            log-fits c.requires.fact_1 c.requires.fact_2,
            log_half c.requires.fact_1 c.requires.fact_2,
            c.requires.fact_2.work,
            rooms,
            c.log_gather.ensures.work.len,
          )) ∙ d)) d c.divide_by.ensures (made)
          c.copy.ensures
          (length_part (c.args.k * (at c.args.sr c.args.v))
          (c.args.k * (at c.args.sr c.args.v) + (at c.args.sr c.args.v))
          (put_mid (2 * c.args.n) (2 * c.args.n + 8 * (at c.args.sr c.args.v)
          - 2 * c.args.n) c.log_gather.new.work c.log_divide.new.work)
          (omega arith) (omega (
            arith,
            log-fits c.requires.fact_1 c.requires.fact_2,
            log_half c.requires.fact_1 c.requires.fact_2,
            c.requires.fact_2.work,
            rooms,
            len2,
          )) ∙ e) e c.scale.ensures f;
      spent = made ∙ sym c.requires.fact_2.full;
    }
