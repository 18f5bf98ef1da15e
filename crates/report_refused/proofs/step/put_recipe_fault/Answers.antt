use Prim.Native.Nat.{◌+◌}
use native.Mathlib.Omega.{arith}
use mathlib.Core.Path.{sym, ap}
use lib.ListN.{length}
use lib.Seq.{length-take-le}
use Rattle.std.proofs.Common.{length-take}
use Rattle.sheet_solving.specs.Ended.{opening-few, opening-fit, opening-known, opening-small, steps-room, steps-read}
use Rattle.report_refused.specs.Known.{steps-ready, new-room, new-known, new-said}
use Rattle.report_refused.proofs.step.put_recipe_fault.Goals as goal

pub total_of-c-requires : goal.total_of-c-requires
total_of-c-requires c = record { fact_1 = opening-known c.requires.fact_1; fact_2 = omega (arith, opening-few c.requires.fact_1) }

pub overflow_add-end : goal.overflow_add-end
overflow_add-end c = omega (arith, opening-fit c.requires.fact_1, c.step_count-n.ensures)

pub overflow_add-k-2 : goal.overflow_add-k-2
overflow_add-k-2 c =
    omega (arith, opening-few c.requires.fact_1, opening-small c.requires.fact_1, c.total_of-c.ensures)

pub slice_bounds-steps-end : goal.slice_bounds-steps-end
slice_bounds-steps-end c = omega (arith, opening-fit c.requires.fact_1, c.step_count-n.ensures)

pub slice_bounds-fill_words-end : goal.slice_bounds-fill_words-end
slice_bounds-fill_words-end c =
    sym (length-take-le _ _ (omega (
      arith,
      opening-fit c.requires.fact_1,
      c.step_count-n.ensures,
    )))

pub fill_words-requires : goal.fill_words-requires
fill_words-requires c =
    simp length-take (omega (
      arith,
      opening-few c.requires.fact_1,
      opening-fit c.requires.fact_1,
      opening-small c.requires.fact_1,
      c.total_of-c.ensures,
      c.step_count-n.ensures,
    ))

pub note_inputs-requires : goal.note_inputs-requires
note_inputs-requires c = omega (arith, opening-few c.requires.fact_1)

pub slice_bounds-steps-end-2 : goal.slice_bounds-steps-end-2
slice_bounds-steps-end-2 c =
    omega (
      arith,
      steps-room c.requires.fact_1 _ c.step_count-n.ensures c.total_of-c.ensures
          (omega arith) c.fill_words.ensures,
      opening-fit c.requires.fact_1,
      c.step_count-n.ensures,
    )

pub slice_bounds-announce_steps-end : goal.slice_bounds-announce_steps-end
slice_bounds-announce_steps-end c =
    sym (length-take-le _ _ (omega (
      arith,
      steps-room c.requires.fact_1 _ c.step_count-n.ensures c.total_of-c.ensures (omega arith) c.fill_words.ensures,
      opening-fit c.requires.fact_1,
      c.step_count-n.ensures,
    )))

pub announce_steps-requires : goal.announce_steps-requires
announce_steps-requires c =
    steps-ready c.requires.fact_1 _ (omega arith) c.note_inputs.ensures (steps-read c.requires.fact_1 _ c.step_count-n.ensures
    c.total_of-c.ensures (omega arith) c.fill_words.ensures)

pub slice_bounds-steps-end-3 : goal.slice_bounds-steps-end-3
slice_bounds-steps-end-3 c =
    omega (
      arith,
      steps-room c.requires.fact_1 _ c.step_count-n.ensures c.total_of-c.ensures (omega arith) c.fill_words.ensures,
      opening-fit c.requires.fact_1,
      c.step_count-n.ensures,
    )

pub slice_bounds-put_known_fault-end : goal.slice_bounds-put_known_fault-end
slice_bounds-put_known_fault-end c =
    sym (length-take-le _ _ (omega (
      arith,
      steps-room c.requires.fact_1 _ c.step_count-n.ensures c.total_of-c.ensures (omega arith) c.fill_words.ensures,
      opening-fit c.requires.fact_1,
      c.step_count-n.ensures,
    )))

pub slice_bounds-known-end : goal.slice_bounds-known-end
slice_bounds-known-end c =
    new-room c.requires.fact_1 _ (omega arith) c.note_inputs.ensures (steps-read c.requires.fact_1 _
    c.step_count-n.ensures c.total_of-c.ensures
    (omega arith) c.fill_words.ensures) c.announce_steps.ensures (ap (λ n. length c.args.headers.now + n) c.step_count-n.ensures)

pub slice_bounds-put_known_fault-end-2 : goal.slice_bounds-put_known_fault-end-2
slice_bounds-put_known_fault-end-2 c =
    sym (length-take-le _ _ (new-room c.requires.fact_1 _ (omega arith) c.note_inputs.ensures (steps-read c.requires.fact_1 _
    c.step_count-n.ensures c.total_of-c.ensures (omega arith) c.fill_words.ensures) c.announce_steps.ensures (ap
    (λ n. length c.args.headers.now + n) c.step_count-n.ensures)))

pub put_known_fault-requires : goal.put_known_fault-requires
put_known_fault-requires c =
    new-known c.requires.fact_1 _ (omega arith) c.note_inputs.ensures (steps-read
    c.requires.fact_1 _ c.step_count-n.ensures c.total_of-c.ensures (omega arith) c.fill_words.ensures) c.announce_steps.ensures (ap
    (λ n. length c.args.headers.now + n) c.step_count-n.ensures) c.requires.fact_2 c.total_of-c.ensures

pub returns : goal.returns
returns c =
    new-said c.requires.fact_1 _ (omega arith) c.note_inputs.ensures (steps-read c.requires.fact_1 _ c.step_count-n.ensures
    c.total_of-c.ensures (omega arith) c.fill_words.ensures) c.announce_steps.ensures (ap (λ n. length c.args.headers.now + n)
    c.step_count-n.ensures) c.requires.fact_2
    c.total_of-c.ensures c.put_known_fault.ensures
