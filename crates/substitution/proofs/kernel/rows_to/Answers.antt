use native.Mathlib.Omega.{arith}
use mathlib.Core.Path.{refl, sym, ◌∙◌}
use Prim.Native.Nat.{◌+◌, ◌-◌}
use borrow.Author.Rules.{rules}
use Rattle.lists.specs.Part.{length_part}
use Rattle.substitution.specs.Horner.{next_picks, next_turning, next_row_lem}
use Rattle.shape_operands.specs.Lent.{part-kept}
use Rattle.shape_operands.specs.Operand.{taken, aside-within}
use Rattle.substitution.specs.Placed.{runs-first, to_end, to-less, to-next, same_operand}
use Rattle.substitution.proofs.kernel.rows_to.Goals as goal

pub overflow_mul-row : goal.overflow_mul-row
overflow_mul-row c = omega (arith, c.requires.fact_1.small)

pub overflow_add-end : goal.overflow_add-end
overflow_add-end c = omega (arith, c.requires.fact_4, c.well_formed)

pub loop-left-init : goal.loop-left-init
loop-left-init c =
    runs-first (taken c.args.p c.args.a.now c.args.out.now).coeffs
    c.args.out.now c.args.work.now c.requires.fact_1 c.requires.fact_2 c.requires.fact_4

pub row_from-requires : goal.row_from-requires
row_from-requires c =
    let s = to-less c.loop-left.invariant (c.loop-left.left - 1) (omega (arith, c.loop-left-test.true)) in record {
      fact_1 = next_picks s.runs.room refl;
      fact_2 = omega (arith, next_row_lem s.runs.room, s.runs.room.work);
      fact_3 = aside-within {at = c.args.at} {n = c.args.n} c.args.a.now c.loop-left.out
          (rw c.loop-left.invariant.stays.below.len c.requires.fact_3);
    }

pub offset_bounds-out-at : goal.offset_bounds-out-at
offset_bounds-out-at c =
    omega (arith, c.loop-left.invariant.stays.below.len, c.requires.fact_4, c.well_formed)

pub slice_bounds-turn-end : goal.slice_bounds-turn-end
slice_bounds-turn-end c =
    omega (arith, c.loop-left.invariant.stays.below.len, c.requires.fact_4)

pub turn-next-requires : goal.turn-next-requires
turn-next-requires c =
    let s =
    to-less c.loop-left.invariant (c.loop-left.left - 1)
    (omega (arith, c.loop-left-test.true)) in
    next_turning s.runs.room refl c.row_from.ensures.below.len

pub loop-left-preserved : goal.loop-left-preserved
loop-left-preserved c =
    let s = to-less c.loop-left.invariant (c.loop-left.left - 1) (omega (arith, c.loop-left-test.true)) in
    to-next s (same_operand c.args.p c.args.a.now c.requires.fact_3
    c.loop-left.invariant.stays) c.row_from.ensures c.turn-next.ensures
    c.turn-next.auto.out (part-kept c.args.at (c.args.at + c.args.n)
    c.loop-left.out c.turn-next.new.out
    (c.turn-next.auto.out ∙ length_part c.args.at (c.args.at + c.args.n)
    c.loop-left.out (omega arith) (omega (arith, c.loop-left.invariant.stays.below.len, c.requires.fact_4)))
    (omega arith) (omega (arith, c.loop-left.invariant.stays.below.len, c.requires.fact_4)))

pub shape_of-out : goal.shape_of-out
shape_of-out c = c.loop-left.invariant.stays.below.len

pub shape_of-work : goal.shape_of-work
shape_of-work c = c.loop-left.invariant.runs.room.work ∙ sym c.requires.fact_1.work

pub returns : goal.returns
returns c = record { wrote = to_end c.loop-left.invariant c.loop-left-test.false; spent = search rules }
