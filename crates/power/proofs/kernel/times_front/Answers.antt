use native.Mathlib.Omega.{arith}
use mathlib.Core.Path.{refl}
use Rattle.power.specs.Kept.{step-ends, step_room}
use Rattle.power.proofs.kernel.times_front.Goals as goal

pub overflow_add-ea : goal.overflow_add-ea
overflow_add-ea c =
    omega (arith, (step-ends c.requires c.args.work.now refl c.count_of.ensures refl).0)

pub overflow_add-eb : goal.overflow_add-eb
overflow_add-eb c =
    omega (arith, (step-ends c.requires c.args.work.now refl c.count_of.ensures c.count_of-2.ensures).1)

pub times-requires : goal.times-requires
times-requires c =
    step_room c.requires c.args.work.now refl c.count_of.ensures c.count_of-2.ensures
