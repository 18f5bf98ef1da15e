use native.Mathlib.Omega.{arith}
use mathlib.Core.List.{[]}
use mathlib.Core.Path.{sym, ap, ◌∙◌}
use lib.Seq.{length-take-le}
use Rattle.model.specs.declared.Refusal.{Refusal}
use Rattle.report_lines.specs.Puts.{printed-none}
use Rattle.report.specs.Tells.{told-refused, told_solved, solved-known, solved-few, given-few, solved_forecast}
use Rattle.report.proofs.answer.Goals as goal

pub returns-in-Err : goal.returns-in-Err
returns-in-Err c =
    let q = c.in-Err.ensures.says in
    rw (told-refused _ _ (sym q.holds) q.some) (c.put_refusal_report.ensures [] _ (printed-none _))

pub overflow_add-n : goal.overflow_add-n
overflow_add-n c =
    omega (arith, c.in-Ok.ensures.done.fit)

pub slice_bounds-headers-end : goal.slice_bounds-headers-end
slice_bounds-headers-end c =
    omega (arith, c.in-Ok.ensures.done.few, c.in-Ok.ensures.headers_len)

pub slice_bounds-total_of-end : goal.slice_bounds-total_of-end
slice_bounds-total_of-end c =
    sym (length-take-le _ _ (omega (arith, c.in-Ok.ensures.done.few, c.in-Ok.ensures.headers_len)))

pub total_of-given-requires : goal.total_of-given-requires
total_of-given-requires c =
    record {
      fact_1 = solved-known c.in-Ok.ensures.done (ap (λ (r : Refusal). r.number) (sym c.in-Ok.ensures.says));
      fact_2 = solved-few c.in-Ok.ensures.done (ap (λ (r : Refusal). r.number) (sym c.in-Ok.ensures.says));
    }

pub overflow_add-end : goal.overflow_add-end
overflow_add-end c =
    omega (arith, c.in-Ok.ensures.done.last.within)

pub slice_bounds-known-end : goal.slice_bounds-known-end
slice_bounds-known-end c =
    omega (arith, c.in-Ok.ensures.done.fit, c.in-Ok.ensures.known_len)

pub slice_bounds-put_read-end : goal.slice_bounds-put_read-end
slice_bounds-put_read-end c =
    sym (length-take-le _ _ (omega (arith, c.in-Ok.ensures.done.fit, c.in-Ok.ensures.known_len)))

pub slice_bounds-headers-end-2 : goal.slice_bounds-headers-end-2
slice_bounds-headers-end-2 c =
    omega (arith, c.in-Ok.ensures.done.few, c.in-Ok.ensures.headers_len)

pub slice_bounds-put_read-end-2 : goal.slice_bounds-put_read-end-2
slice_bounds-put_read-end-2 c =
    sym (length-take-le _ _ (omega (arith, c.in-Ok.ensures.done.few, c.in-Ok.ensures.headers_len)))

pub slice_bounds-steps-end : goal.slice_bounds-steps-end
slice_bounds-steps-end c =
    omega (arith, c.in-Ok.ensures.done.fit, c.in-Ok.ensures.steps_len)

pub slice_bounds-put_read-end-3 : goal.slice_bounds-put_read-end-3
slice_bounds-put_read-end-3 c =
    sym (length-take-le _ _ (omega (arith, c.in-Ok.ensures.done.fit, c.in-Ok.ensures.steps_len)))

pub slice_bounds-coefficients-end : goal.slice_bounds-coefficients-end
slice_bounds-coefficients-end c =
    omega (
      arith,
      given-few c.in-Ok.ensures.done (ap (λ (r : Refusal). r.number) (sym c.in-Ok.ensures.says)) c.total_of-given.ensures,
      c.floats-coefficients.ensures,
    )

pub slice_bounds-put_read-end-4 : goal.slice_bounds-put_read-end-4
slice_bounds-put_read-end-4 c =
    sym (length-take-le _ _ (omega (
      arith,
      given-few c.in-Ok.ensures.done (ap (λ (r : Refusal). r.number) (sym c.in-Ok.ensures.says)) c.total_of-given.ensures,
      c.floats-coefficients.ensures,
    )))

pub offset_bounds-pool-from : goal.offset_bounds-pool-from
offset_bounds-pool-from c =
    omega (arith, c.in-Ok.ensures.done.last.within)

pub slice_bounds-put_read-end-5 : goal.slice_bounds-put_read-end-5
slice_bounds-put_read-end-5 c =
    omega (arith, c.in-Ok.ensures.done.last.held)

pub put_read-requires : goal.put_read-requires
put_read-requires c =
    solved_forecast c.in-Ok.ensures.done (ap (λ (r : Refusal). r.number) (sym c.in-Ok.ensures.says))
    (length-take-le c.total_of-given.result c.floats-coefficients.result (omega (
      arith,
      given-few c.in-Ok.ensures.done (ap (λ (r : Refusal). r.number) (sym c.in-Ok.ensures.says)) c.total_of-given.ensures,
      c.floats-coefficients.ensures,
    )) ∙ c.total_of-given.ensures)

pub returns : goal.returns
returns c =
    rw (told_solved c.in-Ok.ensures.done (ap (λ (r : Refusal). r.number) (sym c.in-Ok.ensures.says))
    (length-take-le c.total_of-given.result c.floats-coefficients.result (omega (
      arith,
      given-few c.in-Ok.ensures.done (ap (λ (r : Refusal). r.number) (sym c.in-Ok.ensures.says)) c.total_of-given.ensures,
      c.floats-coefficients.ensures,
    )) ∙ c.total_of-given.ensures) _) c.put_read.ensures
