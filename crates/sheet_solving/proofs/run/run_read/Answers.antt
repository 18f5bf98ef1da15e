use Rattle.std.proofs.lemmas.Result.{err_from_is_err_and}
use Prim.Native.Nat.{◌+◌}
use native.Mathlib.Omega.{arith}
use mathlib.Core.Path.{refl, sym, ap, ◌∙◌}
use lib.ListN.{length}
use lib.Seq.{length-take-le}
use Rattle.sheet_solving.specs.Ended.{opening-few, opening-fit, opening-known, opening-small, steps-room}
use Rattle.sheet_solving.specs.Ended.{steps-read, judged-refused, judged-left, running, ended-done}
use Rattle.sheet_solving.proofs.run.run_read.Goals as goal

pub overflow_add-end : goal.overflow_add-end
overflow_add-end c = omega (arith, opening-fit c.requires.fact_1, c.step_count-n.ensures)

pub total_of-given-requires : goal.total_of-given-requires
total_of-given-requires c =
    record { fact_1 = opening-known c.requires.fact_1; fact_2 = omega (arith, opening-few c.requires.fact_1) }

pub overflow_add-headers-2 : goal.overflow_add-headers-2
overflow_add-headers-2 c =
    omega (arith, opening-few c.requires.fact_1, opening-small c.requires.fact_1, c.total_of-given.ensures)

pub slice_bounds-fill_words-end : goal.slice_bounds-fill_words-end
slice_bounds-fill_words-end c =
    omega (arith, opening-fit c.requires.fact_1, c.step_count-n.ensures, c.requires.fact_2.steps)

pub slice_bounds-fill_words-end-2 : goal.slice_bounds-fill_words-end-2
slice_bounds-fill_words-end-2 c = sym (length-take-le _ _ (omega (arith, opening-fit c.requires.fact_1, c.step_count-n.ensures, c.requires.fact_2.steps)))

pub fill_words-requires : goal.fill_words-requires
fill_words-requires c =
    omega (
      arith,
      sym (length-take-le (c.step_count-n.result) c.args.steps.now (omega (
        arith,
        opening-fit c.requires.fact_1,
        c.step_count-n.ensures,
        c.requires.fact_2.steps,
      ))),
      opening-few c.requires.fact_1,
      opening-fit c.requires.fact_1,
      opening-small c.requires.fact_1,
      c.total_of-given.ensures,
      c.step_count-n.ensures,
    )

pub slice_bounds-judge_own-end : goal.slice_bounds-judge_own-end
slice_bounds-judge_own-end c =
    omega (
      arith,
      steps-room c.requires.fact_1 c.args.steps.now c.step_count-n.ensures
          c.total_of-given.ensures c.requires.fact_2.steps
          c.fill_words.ensures,
      opening-fit c.requires.fact_1,
      c.step_count-n.ensures,
      c.requires.fact_2.steps,
    )

pub slice_bounds-judge_own-end-2 : goal.slice_bounds-judge_own-end-2
slice_bounds-judge_own-end-2 c = sym (length-take-le _ _ (omega (
  arith,
  steps-room c.requires.fact_1 c.args.steps.now c.step_count-n.ensures
      c.total_of-given.ensures c.requires.fact_2.steps
      c.fill_words.ensures,
  opening-fit c.requires.fact_1,
  c.step_count-n.ensures,
  c.requires.fact_2.steps,
)))

pub returns-in_err-judge_own : goal.returns-in_err-judge_own
returns-in_err-judge_own c =
    let p = err_from_is_err_and c.from_residual.result c.from_residual.ensures.1 in
    let q = c.in_err-judge_own.ensures in
    let read = steps-read c.requires.fact_1 c.args.steps.now c.step_count-n.ensures c.total_of-given.ensures
    c.requires.fact_2.steps c.fill_words.ensures in
    rw (p.1, p.2)
    (record {
      says = record { some = q.some; holds = judged-refused c.requires.fact_1 read q.holds q.some };
      refused = judged-left c.requires.fact_1 c.args.pool.now read q.holds q.some;
      done = tt;
    })

pub slice_bounds-run_judged-end : goal.slice_bounds-run_judged-end
slice_bounds-run_judged-end c =
    omega (
      arith,
      steps-room c.requires.fact_1 c.args.steps.now c.step_count-n.ensures c.total_of-given.ensures c.requires.fact_2.steps c.fill_words.ensures,
      opening-fit c.requires.fact_1,
      c.step_count-n.ensures,
      c.requires.fact_2.steps,
    )

pub slice_bounds-run_judged-end-2 : goal.slice_bounds-run_judged-end-2
slice_bounds-run_judged-end-2 c = sym (length-take-le _ _ (omega (
  arith,
  steps-room c.requires.fact_1 c.args.steps.now c.step_count-n.ensures c.total_of-given.ensures c.requires.fact_2.steps c.fill_words.ensures,
  opening-fit c.requires.fact_1,
  c.step_count-n.ensures,
  c.requires.fact_2.steps,
)))

pub slice_bounds-run_judged-end-3 : goal.slice_bounds-run_judged-end-3
slice_bounds-run_judged-end-3 c =
    omega (
      arith,
      c.in_ok-judge_own.ensures.len,
      c.requires.fact_2.known,
      opening-fit c.requires.fact_1,
      c.step_count-n.ensures,
    )

pub slice_bounds-run_judged-end-4 : goal.slice_bounds-run_judged-end-4
slice_bounds-run_judged-end-4 c = sym (length-take-le _ _ (omega (
  arith,
  c.in_ok-judge_own.ensures.len,
  c.requires.fact_2.known,
  opening-fit c.requires.fact_1,
  c.step_count-n.ensures,
)))

pub run_judged-requires : goal.run_judged-requires
run_judged-requires c =
    record {
      fact_1 = running c.requires.fact_1 (steps-read c.requires.fact_1 c.args.steps.now c.step_count-n.ensures
          c.total_of-given.ensures c.requires.fact_2.steps c.fill_words.ensures)
          c.in_ok-judge_own.ensures
          refl (ap (λ n. length c.args.headers.now + n)
          (sym (length-take-le (_) _ (omega (
            arith,
            steps-room c.requires.fact_1 c.args.steps.now c.step_count-n.ensures c.total_of-given.ensures c.requires.fact_2.steps c.fill_words.ensures,
            opening-fit c.requires.fact_1,
            c.step_count-n.ensures,
            c.requires.fact_2.steps,
          ))))) c.total_of-given.ensures;
      fact_2 = c.requires.fact_2.pool;
    }

pub returns : goal.returns
returns c =
    ended-done _ _ _
    (running c.requires.fact_1 (steps-read c.requires.fact_1 c.args.steps.now c.step_count-n.ensures
    c.total_of-given.ensures c.requires.fact_2.steps c.fill_words.ensures) c.in_ok-judge_own.ensures
    refl
    (ap (λ n. length c.args.headers.now + n)
    (sym (length-take-le (_) _ (omega (
      arith,
      steps-room c.requires.fact_1 c.args.steps.now c.step_count-n.ensures c.total_of-given.ensures c.requires.fact_2.steps c.fill_words.ensures,
      opening-fit c.requires.fact_1,
      c.step_count-n.ensures,
      c.requires.fact_2.steps,
    ))))) c.total_of-given.ensures)
    c.step_count-n.ensures refl
    c.run_judged.ensures
