use native.Mathlib.Omega.{arith}
use Rattle.std.proofs.lemmas.Grind.{common_steps}
use Rattle.recipes_placing.specs.Going.{going-none, going-length, going-fits, going_end, going_more, going-offsets, going-needed}
use Rattle.recipes_placing.proofs.place.Goals as goal

pub loop-i-init : goal.loop-i-init
loop-i-init c = going-none _ _ _

pub lowest-at-requires : goal.lowest-at-requires
lowest-at-requires c =
    let l = going-length c.loop-i.invariant c.loop-i-test.true in record {
      fact_1 = (
        omega (
          arith,
          l,
          c.loop-i-test.true,
          c.requires.fact_1.0,
        ),
        omega (arith, l, c.loop-i-test.true),
        omega (
          arith,
          l,
          c.loop-i-test.true,
          c.requires.fact_1.2,
        ),
      );
      fact_2 = omega (
        arith,
        going-fits c.loop-i.invariant
            c.loop-i-test.true,
        c.requires.fact_2,
      );
    }

pub overflow_add-at : goal.overflow_add-at
overflow_add-at c =
    omega (arith, going_end c.loop-i.invariant c.loop-i-test.true c.lowest-at.ensures, c.requires.fact_2)

pub loop-i-preserved : goal.loop-i-preserved
loop-i-preserved c =
    going_more c.loop-i.invariant c.loop-i-test.true c.lowest-at.ensures (omega (arith, c.requires.fact_1.1)) (grind (arith, common_steps))

pub returns : goal.returns
returns c = record { offsets = going-offsets c.loop-i.invariant c.loop-i-test.false; length = going-needed c.loop-i.invariant c.loop-i-test.false }
