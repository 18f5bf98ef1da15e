use native.Mathlib.Omega.{arith}
use mathlib.Core.Path.{sym}
use lib.Seq.{length-take-le}
use Rattle.sheet_solving.specs.Running.{running-fit, running-given, running_in}
use Rattle.sheet_solving.proofs.run.run_judged.Goals as goal

pub note_inputs-requires : goal.note_inputs-requires
note_inputs-requires c =
    omega (arith, running-fit c.requires.fact_1, c.places-announced.ensures)

pub slice_bounds-coefficients-end : goal.slice_bounds-coefficients-end
slice_bounds-coefficients-end c =
    omega (arith, running-given c.requires.fact_1, c.floats-coefficients.ensures)

pub slice_bounds-run_in-end-2 : goal.slice_bounds-run_in-end-2
slice_bounds-run_in-end-2 c =
    sym (length-take-le _ _ (omega (arith, running-given c.requires.fact_1, c.floats-coefficients.ensures)))

pub run_in-requires : goal.run_in-requires
run_in-requires c =
    running_in c.requires.fact_1 c.places-announced.result c.note_inputs.ensures c.places-announced.ensures (length-take-le _ _ (omega (
      arith,
      running-given c.requires.fact_1,
      c.floats-coefficients.ensures,
    ))) c.requires.fact_2 (omega (arith, c.places-words.ensures))
    (omega (arith, c.floats-scratch.ensures))

pub returns : goal.returns
returns c =
    c.run_in.ensures.ends
