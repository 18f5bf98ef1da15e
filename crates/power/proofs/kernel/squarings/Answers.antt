use native.Mathlib.Omega.{arith}
use mathlib.Core.Path.{refl, ◌∙◌}
use lib.ListN.{length-set}
use Rattle.power.specs.Kept.{begun_in, begun_base, turning-first, turn_bit, turn-square, turn-next, turn_last}
use Rattle.power.proofs.kernel.squarings.Goals as goal

pub bounds-work-n : goal.bounds-work-n
bounds-work-n c = begun_in c.requires.fact_1 c.requires.fact_2 c.args.work.now refl

pub loop-left-init : goal.loop-left-init
loop-left-init c = (turning-first c.requires.fact_1 c.requires.fact_2 c.args.work.now refl (omega arith), refl)

pub take_bit-r-requires : goal.take_bit-r-requires
take_bit-r-requires c =
    λ _. turn_bit c.requires.fact_1 c.requires.fact_2 c.loop-left.invariant.0 (simp length-set) refl c.loop-left.invariant.1

pub times_to-b-requires : goal.times_to-b-requires
times_to-b-requires c =
    record {
      fact_1 = turn-square c.requires.fact_1 c.requires.fact_2 c.loop-left.invariant.0 (simp length-set) c.loop-left-test.true
          c.take_bit-r.auto.work (c.take_bit-r.auto.out ∙ c.loop-left.invariant.1);
      fact_2 = omega arith;
    }

pub loop-left-preserved : goal.loop-left-preserved
loop-left-preserved c = (
  turn-next c.requires.fact_1 c.requires.fact_2 c.loop-left.invariant.0 (simp length-set) c.loop-left-test.true
      c.take_bit-r.ensures.placed c.times_to-b.ensures.placed (c.times_to-b.auto.work ∙ c.take_bit-r.auto.work),
  c.times_to-b.auto.out ∙ (c.take_bit-r.auto.out ∙ c.loop-left.invariant.1),
)

pub times_front-requires : goal.times_front-requires
times_front-requires c =
    turn_bit c.requires.fact_1 c.requires.fact_2 c.loop-left.invariant.0 (simp length-set) refl c.loop-left.invariant.1

pub returns : goal.returns
returns c = record {
  stands = rw (begun_base c.requires.fact_1 c.requires.fact_2 c.args.work.now refl) at
      (turn_last c.requires.fact_1 c.requires.fact_2 c.loop-left.invariant.0 (simp length-set)
      (omega (arith, c.loop-left-test.false))
      c.times_front.ensures);
  spent = c.times_front.auto.work ∙ (c.loop-left.invariant.0.len ∙ simp length-set);
}
