use Rattle.std.proofs.lemmas.Result.{MatchResult-weaker, err_from_is_err_and}
use mathlib.Core.Path.{ap, refl}
use Rattle.model.specs.declared.Refusal.{Refusal}
use native.Mathlib.Omega.{arith}
use mathlib.Core.Path.{sym, ◌∙◌}
use Rattle.sheet_reading.specs.Headers.{good-known}
use Rattle.sheet_reading.specs.Reading.{Sized, sized, read_8, read_7, few-places, few-taken, mid_len, read_1}
use Rattle.sheet_reading.specs.Reading.{mid-taken, mid-good, mid-total, read-rest, step_small}
use Rattle.sheet_reading.proofs.read.Goals as goal

pub returns-then-not-is_line : goal.returns-then-not-is_line
returns-then-not-is_line c =
    record {
      some = λ z. omega (arith, ap (λ (r : Refusal). r.number) c.by.ensures, z);
      holds = rw c.by.ensures (read_8 _ _ (sym c.is_line.ensures ∙ c.if-not-is_line.true));
    }

pub returns-then-not-is_sized : goal.returns-then-not-is_sized
returns-then-not-is_sized c =
    record {
      some = λ z. omega (arith, ap (λ (r : Refusal). r.number) c.by-then-not-is_sized.ensures, z);
      holds = rw c.by-then-not-is_sized.ensures
          (read_7 _ _ (sym c.is_line.ensures
          ∙ c.if-not-is_line.false)
          (sym c.is_sized.ensures ∙ c.if-not-is_sized.true));
    }

pub slice_bounds-read_headers-end : goal.slice_bounds-read_headers-end
slice_bounds-read_headers-end c =
    let size : Sized c.args.text.now =
    sized _ (sym c.is_line.ensures ∙ c.if-not-is_line.false)
    (sym c.is_sized.ensures ∙ c.if-not-is_sized.false) in
    few-places c.args.text.now c.args.headers.now (size) c.input_count-inputs.ensures c.requires

pub slice_bounds-read_headers-end-2 : goal.slice_bounds-read_headers-end-2
slice_bounds-read_headers-end-2 c =
    let size : Sized c.args.text.now =
    sized _ (sym c.is_line.ensures ∙ c.if-not-is_line.false)
    (sym c.is_sized.ensures ∙ c.if-not-is_sized.false) in
    sym (few-taken c.args.text.now c.args.headers.now (size) c.input_count-inputs.ensures c.requires)

pub read_headers-requires : goal.read_headers-requires
read_headers-requires c =
    let size : Sized c.args.text.now =
    sized _ (sym c.is_line.ensures ∙ c.if-not-is_line.false)
    (sym c.is_sized.ensures ∙ c.if-not-is_sized.false) in
    omega (
      arith,
      few-taken c.args.text.now c.args.headers.now (size) c.input_count-inputs.ensures c.requires,
      c.input_count-inputs.ensures,
      (size).few,
    )

pub returns-in_err-read_headers : goal.returns-in_err-read_headers
returns-in_err-read_headers c =
    let p = err_from_is_err_and c.from_residual.result c.from_residual.ensures.1 in
    let q = c.in_err-read_headers.ensures in
    rw (p.1, p.2) (record {
      some = q.some;
      holds = let size : Sized c.args.text.now =
          sized _ (sym c.is_line.ensures ∙ c.if-not-is_line.false)
          (sym c.is_sized.ensures ∙ c.if-not-is_sized.false) in
          read_1 c.args.text.now c.args.headers.now
          (size)
          c.input_count-inputs.ensures c.requires
          q.holds q.some;
    })

pub slice_bounds-total_of-end : goal.slice_bounds-total_of-end
slice_bounds-total_of-end c =
    let size : Sized c.args.text.now =
    sized _ (sym c.is_line.ensures ∙ c.if-not-is_line.false)
    (sym c.is_sized.ensures ∙ c.if-not-is_sized.false) in
    omega (
      arith,
      few-places c.args.text.now c.args.headers.now (size) c.input_count-inputs.ensures c.requires,
      mid_len c.args.text.now c.args.headers.now (size) c.input_count-inputs.ensures c.requires
          c.in_ok-read_headers.ensures,
    )

pub slice_bounds-total_of-end-2 : goal.slice_bounds-total_of-end-2
slice_bounds-total_of-end-2 c =
    let size : Sized c.args.text.now =
    sized _ (sym c.is_line.ensures ∙ c.if-not-is_line.false)
    (sym c.is_sized.ensures ∙ c.if-not-is_sized.false) in
    mid-taken c.args.text.now c.args.headers.now (size)
    c.input_count-inputs.ensures c.requires
    c.in_ok-read_headers.ensures refl

pub total_of-requires : goal.total_of-requires
total_of-requires c =
    let size : Sized c.args.text.now =
    sized _ (sym c.is_line.ensures ∙ c.if-not-is_line.false)
    (sym c.is_sized.ensures ∙ c.if-not-is_sized.false) in
    record {
      fact_1 = good-known (mid-good c.args.text.now c.args.headers.now (size) c.input_count-inputs.ensures
          c.requires c.in_ok-read_headers.ensures refl);
      fact_2 = omega (
        arith,
        mid-taken c.args.text.now c.args.headers.now (size) c.input_count-inputs.ensures c.requires
            c.in_ok-read_headers.ensures refl,
        c.input_count-inputs.ensures,
        (size).few,
      );
    }

pub overflow_add-rest : goal.overflow_add-rest
overflow_add-rest c =
    let size : Sized c.args.text.now =
    sized _ (sym c.is_line.ensures ∙ c.if-not-is_line.false)
    (sym c.is_sized.ensures ∙ c.if-not-is_sized.false) in
    omega (
      arith,
      c.total_of.ensures,
      c.step_count.ensures,
      mid-total c.args.text.now c.args.headers.now (size) c.input_count-inputs.ensures c.requires
          c.in_ok-read_headers.ensures
          refl,
      step_small c.args.text.now,
    )

pub overflow_add-inputs : goal.overflow_add-inputs
overflow_add-inputs c =
    let size : Sized c.args.text.now =
    sized _ (sym c.is_line.ensures ∙ c.if-not-is_line.false)
    (sym c.is_sized.ensures ∙ c.if-not-is_sized.false) in
    omega (arith, c.input_count-inputs.ensures, (size).few)

pub rest_refusal-requires : goal.rest_refusal-requires
rest_refusal-requires c =
    let size : Sized c.args.text.now =
    sized _ (sym c.is_line.ensures ∙ c.if-not-is_line.false)
    (sym c.is_sized.ensures ∙ c.if-not-is_sized.false) in
    omega (
      arith,
      c.total_of.ensures,
      c.step_count.ensures,
      mid-total c.args.text.now c.args.headers.now (size) c.input_count-inputs.ensures c.requires
          c.in_ok-read_headers.ensures
          refl,
      step_small c.args.text.now,
      c.input_count-inputs.ensures,
      (size).few,
    )

pub returns : goal.returns
returns c =
    let size : Sized c.args.text.now =
    sized _ (sym c.is_line.ensures ∙ c.if-not-is_line.false)
    (sym c.is_sized.ensures ∙ c.if-not-is_sized.false) in
    MatchResult-weaker c.rest_refusal.result c.rest_refusal.ensures
    (λ _ e. read-rest c.args.text.now c.args.headers.now size c.input_count-inputs.ensures c.requires
    c.in_ok-read_headers.ensures refl c.total_of.ensures c.step_count.ensures e)
    (λ q j. record {
      some = j.some;
      holds = read-rest c.args.text.now c.args.headers.now size c.input_count-inputs.ensures c.requires
          c.in_ok-read_headers.ensures refl c.total_of.ensures c.step_count.ensures j.holds;
    })
