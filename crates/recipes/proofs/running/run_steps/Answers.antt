use native.Mathlib.Omega.{arith}
use mathlib.Core.Path.{◌≡◌, refl, sym, ap, ◌∙◌}
use lib.ListN.{get_or, length, take}
use lib.Seq.{length-take-le}
use Rattle.model.specs.Header.{stored}
use Rattle.model_recipes.specs.Recipe.{recipe_of, announced_step, announced_places}
use Rattle.recipes.specs.Running.{fit, running_none, running-from, running-at, room_ruled, room-is}
use Rattle.recipes.specs.Running.{step_in_lem, step-lent, running_more, end-words, end-pool}
use Rattle.recipes.specs.Stopping.{ahead_none, stood-all, behind, front_fits, headed-now, stop_is, stood-here, ahead_more}
use borrow.Author.Rules.{rules}
use Rattle.recipes.proofs.running.run_steps.Goals as goal

pub loop-i-init : goal.loop-i-init
loop-i-init c = (
  running_none c.requires.fact_1 c.args.pool.now c.requires.fact_2 c.requires.fact_3,
  (
    refl,
    ahead_none (recipe_of c.args.edition
        c.args.headers.now c.args.steps.now) c.args.coefficients.now,
  ),
)

pub overflow_add-p : goal.overflow_add-p
overflow_add-p c =
    omega (arith, fit c.requires.fact_1, c.loop-i-test.true)

pub offset_bounds-starts-p : goal.offset_bounds-starts-p
offset_bounds-starts-p c =
    omega (arith, fit c.requires.fact_1, c.loop-i-test.true)

pub bounds-starts-p : goal.bounds-starts-p
bounds-starts-p c =
    omega (arith, fit c.requires.fact_1, c.loop-i-test.true, c.requires.fact_3)

pub slice_bounds-is_stop-end : goal.slice_bounds-is_stop-end
slice_bounds-is_stop-end c =
    front_fits c.requires.fact_1 (running-from c.requires.fact_1 c.loop-i.invariant.0 c.loop-i-test.true) c.loop-i-test.true
    c.loop-i.invariant.0.len-pool

pub slice_bounds-is_stop-end-in-loop-i : goal.slice_bounds-is_stop-end-in-loop-i
slice_bounds-is_stop-end-in-loop-i c =
    sym (length-take-le _ _ (front_fits c.requires.fact_1 (running-from c.requires.fact_1 c.loop-i.invariant.0 c.loop-i-test.true)
    c.loop-i-test.true c.loop-i.invariant.0.len-pool))

pub is_stop-requires : goal.is_stop-requires
is_stop-requires c =
    rw c.step_of-s.ensures (headed-now c.requires.fact_1 (running-from c.requires.fact_1 c.loop-i.invariant.0 c.loop-i-test.true)
    c.loop-i-test.true c.loop-i.invariant.0.len-pool)

pub shape_of-known-then-is_stop : goal.shape_of-known-then-is_stop
shape_of-known-then-is_stop c =
    c.loop-i.invariant.0.len-known

pub shape_of-pool-then-is_stop : goal.shape_of-pool-then-is_stop
shape_of-pool-then-is_stop c =
    c.loop-i.invariant.0.len-pool

pub shape_of-scratch-then-is_stop : goal.shape_of-scratch-then-is_stop
shape_of-scratch-then-is_stop c =
    c.loop-i.invariant.1.0

pub returns-then-is_stop : goal.returns-then-is_stop
returns-then-is_stop c =
    record {
      made = stood-here c.requires.fact_1 (running-from c.requires.fact_1 c.loop-i.invariant.0 c.loop-i-test.true) c.loop-i-test.true
          c.loop-i.invariant.0.len-pool c.loop-i.invariant.1.1 (sym (stop_is c.requires.fact_1 (running-from c.requires.fact_1 c.loop-i.invariant.0
          c.loop-i-test.true) c.loop-i-test.true c.loop-i.invariant.0.len-pool) ∙ (sym (rw c.step_of-s.ensures at
          c.is_stop.ensures) ∙ c.if-is_stop.true));
      words = λ z. absurd (omega (arith, z, c.loop-i-test.true));
      values = λ z. absurd (omega
          (arith, z, c.loop-i-test.true));
      behind = behind c.requires.fact_1 c.loop-i.invariant.0;
      spent = search rules;
    }

pub offset_bounds-known-p : goal.offset_bounds-known-p
offset_bounds-known-p c =
    omega (arith, fit c.requires.fact_1, c.loop-i-test.true)

pub bounds-known-p : goal.bounds-known-p
bounds-known-p c =
    omega (arith, fit c.requires.fact_1, c.loop-i-test.true, c.loop-i.invariant.0.len-known, c.requires.fact_1.many)

pub stored_of-room-requires : goal.stored_of-room-requires
stored_of-room-requires c =
    rw c.header_of.ensures (room_ruled c.requires.fact_1 (running-from c.requires.fact_1 c.loop-i.invariant.0 c.loop-i-test.true)
    c.loop-i-test.true)

pub step_word-requires : goal.step_word-requires
step_word-requires c =
    let counted : c.stored_of-room.result ≡ stored (announced_step c.args.edition (get_or c.args.steps.now c.loop-i.i 0) (announced_places (recipe_of
    c.args.edition c.args.headers.now (take c.loop-i.i c.args.steps.now)))) =
    c.stored_of-room.ensures ∙ (ap stored c.header_of.ensures ∙ room-is c.requires.fact_1 c.loop-i.invariant.0 c.loop-i-test.true) in
    record {
      fact_1 = rw c.step_of-s.ensures (step_in_lem c.requires.fact_1 (running-from c.requires.fact_1 c.loop-i.invariant.0 c.loop-i-test.true)
          c.loop-i-test.true (counted) c.loop-i.invariant.0.len-pool);
      fact_2 = rw c.loop-i.invariant.1.0 (step-lent c.requires.fact_1 (running-from
          c.requires.fact_1 c.loop-i.invariant.0 c.loop-i-test.true) c.loop-i-test.true (counted) c.loop-i.invariant.0.len-pool);
    }

pub offset_bounds-known-p-in-loop-i : goal.offset_bounds-known-p-in-loop-i
offset_bounds-known-p-in-loop-i c =
    omega (arith, fit c.requires.fact_1, c.loop-i-test.true)

pub bounds-known-p-in-loop-i : goal.bounds-known-p-in-loop-i
bounds-known-p-in-loop-i c =
    omega (arith, fit c.requires.fact_1, c.loop-i-test.true, c.loop-i.invariant.0.len-known, c.requires.fact_1.many)

pub loop-i-preserved : goal.loop-i-preserved
loop-i-preserved c =
    let counted : c.stored_of-room.result ≡ stored (announced_step c.args.edition (get_or c.args.steps.now c.loop-i.i 0) (announced_places (recipe_of
    c.args.edition c.args.headers.now (take c.loop-i.i c.args.steps.now)))) =
    c.stored_of-room.ensures ∙ (ap stored c.header_of.ensures ∙ room-is c.requires.fact_1 c.loop-i.invariant.0 c.loop-i-test.true) in (
      running-at c.requires.fact_1 (running_more c.requires.fact_1 (running-from c.requires.fact_1 c.loop-i.invariant.0 c.loop-i-test.true)
          c.loop-i-test.true (counted) c.loop-i.invariant.0.len-pool (rw c.step_of-s.ensures at c.step_word.ensures.word) (rw
          c.step_of-s.ensures at c.step_word.ensures.kept)),
      (
        c.step_word.auto.scratch ∙ c.loop-i.invariant.1.0,
        ahead_more c.requires.fact_1 (running-from c.requires.fact_1
            c.loop-i.invariant.0 c.loop-i-test.true) c.loop-i-test.true c.loop-i.invariant.0.len-pool c.loop-i.invariant.1.1 (sym (stop_is
            c.requires.fact_1 (running-from c.requires.fact_1 c.loop-i.invariant.0 c.loop-i-test.true) c.loop-i-test.true
            c.loop-i.invariant.0.len-pool) ∙ (sym (rw c.step_of-s.ensures at c.is_stop.ensures) ∙ c.if-is_stop.false)),
      ),
    )

pub shape_of-known : goal.shape_of-known
shape_of-known c = c.loop-i.invariant.0.len-known

pub shape_of-pool : goal.shape_of-pool
shape_of-pool c = c.loop-i.invariant.0.len-pool

pub shape_of-scratch : goal.shape_of-scratch
shape_of-scratch c = c.loop-i.invariant.1.0

pub returns : goal.returns
returns c =
    let all : c.loop-i.i ≡ length c.args.steps.now = omega (arith, c.loop-i.invariant.0.most, c.loop-i-test.false) in
    record {
      made = rw all at (stood-all c.loop-i.invariant.1.1 c.loop-i.invariant.0.most c.loop-i-test.false);
      words = λ z. end-words c.requires.fact_1
          c.loop-i.invariant.0 c.loop-i-test.false;
      values = λ z. end-pool c.requires.fact_1 c.loop-i.invariant.0 c.loop-i-test.false;
      behind = behind
          c.requires.fact_1 c.loop-i.invariant.0;
      spent = search rules;
    }
