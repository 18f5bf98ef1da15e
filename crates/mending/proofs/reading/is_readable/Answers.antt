use mathlib.Core.Path.{sym, ◌∙◌}
use native.Mathlib.Omega.{arith}
use Rattle.sheet_reading.specs.Headers.{good-known}
use Rattle.mending.specs.Reading.{first-is, Sized, sized, first-wrong, few-places, few-taken, mid_len, header-wrong}
use Rattle.mending.specs.Reading.{mid-good, mid-taken, mid-total, rest_read, steps-small}
use Rattle.mending.proofs.reading.is_readable.Goals as goal

pub returns-then-not-is_old_line-is_sized : goal.returns-then-not-is_old_line-is_sized
returns-then-not-is_old_line-is_sized c =
    first-wrong c.args.text.now c.args.headers.now
    (sym (first-is _ c.is_old_line.ensures c.is_sized.ensures) ∙ c.if-not-is_old_line-is_sized.true)

pub slice_bounds-read_headers-end : goal.slice_bounds-read_headers-end
slice_bounds-read_headers-end c =
    let size : Sized c.args.text.now =
    sized _ (sym (first-is _ c.is_old_line.ensures c.is_sized.ensures) ∙ c.if-not-is_old_line-is_sized.false) in
    few-places
    c.args.text.now c.args.headers.now (size) c.input_count-inputs.ensures c.requires

pub slice_bounds-read_headers-end-2 : goal.slice_bounds-read_headers-end-2
slice_bounds-read_headers-end-2 c =
    let size : Sized c.args.text.now =
    sized _ (sym (first-is _ c.is_old_line.ensures c.is_sized.ensures) ∙ c.if-not-is_old_line-is_sized.false) in
    sym (few-taken
    c.args.text.now c.args.headers.now (size) c.input_count-inputs.ensures
    c.requires)

pub read_headers-requires : goal.read_headers-requires
read_headers-requires c =
    let size : Sized c.args.text.now =
    sized _ (sym (first-is _ c.is_old_line.ensures c.is_sized.ensures) ∙ c.if-not-is_old_line-is_sized.false) in
    omega (
      arith,
      few-taken
          c.args.text.now c.args.headers.now (size) c.input_count-inputs.ensures
          c.requires,
      c.input_count-inputs.ensures,
      (size).few,
    )

pub returns-then-not-read_headers : goal.returns-then-not-read_headers
returns-then-not-read_headers c =
    let size : Sized c.args.text.now =
    sized _ (sym (first-is _ c.is_old_line.ensures c.is_sized.ensures) ∙ c.if-not-is_old_line-is_sized.false) in
    header-wrong
    c.args.text.now c.args.headers.now (size) c.input_count-inputs.ensures c.requires
    c.read_headers.ensures
    c.if-not-read_headers.true

pub slice_bounds-total_of-end : goal.slice_bounds-total_of-end
slice_bounds-total_of-end c =
    let size : Sized c.args.text.now =
    sized _ (sym (first-is _ c.is_old_line.ensures c.is_sized.ensures) ∙ c.if-not-is_old_line-is_sized.false) in
    omega (
      arith,
      few-places
          c.args.text.now c.args.headers.now (size) c.input_count-inputs.ensures c.requires,
      mid_len
          c.args.text.now c.args.headers.now (size) c.input_count-inputs.ensures c.requires
          c.read_headers.ensures,
    )

pub slice_bounds-total_of-end-2 : goal.slice_bounds-total_of-end-2
slice_bounds-total_of-end-2 c =
    let size : Sized c.args.text.now =
    sized _ (sym (first-is _ c.is_old_line.ensures c.is_sized.ensures) ∙ c.if-not-is_old_line-is_sized.false) in
    mid-taken
    c.args.text.now c.args.headers.now (size) c.input_count-inputs.ensures c.requires
    c.read_headers.ensures
    c.if-not-read_headers.false

pub total_of-requires : goal.total_of-requires
total_of-requires c =
    let size : Sized c.args.text.now =
    sized _ (sym (first-is _ c.is_old_line.ensures c.is_sized.ensures) ∙ c.if-not-is_old_line-is_sized.false) in
    record {
      fact_1 = good-known (mid-good
          c.args.text.now c.args.headers.now (size) c.input_count-inputs.ensures c.requires
          c.read_headers.ensures
          c.if-not-read_headers.false);
      fact_2 = omega (
        arith,
        mid-taken
            c.args.text.now c.args.headers.now (size) c.input_count-inputs.ensures c.requires
            c.read_headers.ensures
            c.if-not-read_headers.false,
        c.input_count-inputs.ensures,
        (size).few,
      );
    }

pub overflow_add-rest : goal.overflow_add-rest
overflow_add-rest c =
    let size : Sized c.args.text.now =
    sized _ (sym (first-is _ c.is_old_line.ensures c.is_sized.ensures) ∙ c.if-not-is_old_line-is_sized.false) in
    omega (
      arith,
      c.total_of.ensures,
      c.step_count.ensures,
      steps-small c.args.text.now,
      mid-total
          c.args.text.now c.args.headers.now (size) c.input_count-inputs.ensures c.requires
          c.read_headers.ensures
          c.if-not-read_headers.false,
    )

pub overflow_add-inputs : goal.overflow_add-inputs
overflow_add-inputs c =
    let size : Sized c.args.text.now =
    sized _ (sym (first-is _ c.is_old_line.ensures c.is_sized.ensures) ∙ c.if-not-is_old_line-is_sized.false) in
    omega (arith, c.input_count-inputs.ensures, (size).few)

pub all_lined-requires : goal.all_lined-requires
all_lined-requires c =
    let size : Sized c.args.text.now =
    sized _ (sym (first-is _ c.is_old_line.ensures c.is_sized.ensures) ∙ c.if-not-is_old_line-is_sized.false) in
    omega (
      arith,
      c.total_of.ensures,
      c.step_count.ensures,
      steps-small c.args.text.now,
      c.input_count-inputs.ensures,
      (size).few,
      mid-total
          c.args.text.now c.args.headers.now (size) c.input_count-inputs.ensures c.requires
          c.read_headers.ensures
          c.if-not-read_headers.false,
    )

pub returns : goal.returns
returns c =
    let size : Sized c.args.text.now =
    sized _ (sym (first-is _ c.is_old_line.ensures c.is_sized.ensures) ∙ c.if-not-is_old_line-is_sized.false) in
    rest_read
    c.args.text.now c.args.headers.now (size) c.input_count-inputs.ensures c.requires
    c.read_headers.ensures
    c.if-not-read_headers.false c.total_of.ensures c.step_count.ensures
    c.all_lined.ensures
