use native.Mathlib.Omega.{arith}
use mathlib.Core.Path.{◌≡◌, refl, sym, ◌∙◌}
use mathlib.Core.List.{◌++◌}
use Prim.Native.Nat.{◌+◌, ◌-◌, ◌*◌, ◌≤◌}
use lib.ListN.{length, drop, length-append, length-drop}
use lib.Seq.{length-take-le}
use borrow.Author.Rules.{rules}
use Rattle.lists.specs.Four.{at}
use Rattle.model.specs.Header.{count}
use Rattle.shape_words.specs.Lengths.{row_small}
use Rattle.quotient_levels.specs.Room.{Room}
use Rattle.quotient_levels.specs.Levels.{level-row, level-top, level_in, level-gather}
use Rattle.quotient.specs.Firsts.{first_next_lem, firsts-none, firsts_more, firsts-all}
use Rattle.quotient.proofs.kernel.each_first.Goals as goal

pub overflow_add-end : goal.overflow_add-end
overflow_add-end c = omega (arith, level-top c.requires.fact_1 c.requires.fact_3)

pub loop-k-init : goal.loop-k-init
loop-k-init c = (
  refl,
  firsts-none c.requires.fact_1 c.requires.fact_2 c.args.work.now c.requires.fact_3,
)

pub overflow_mul-at : goal.overflow_mul-at
overflow_mul-at c =
    let inside : c.args.q + c.loop-k.k * at c.args.sr 0 + at c.args.sr 0 ≤ length c.args.work.now =
    let a = c.requires.fact_3.apart in
    let o = c.requires.fact_3.room in
    omega (
      arith,
      level_in c.requires.fact_1 c.requires.fact_3 c.loop-k-test.true,
      level-top c.requires.fact_1 c.requires.fact_3,
    ) in
    omega (arith, inside)

pub overflow_add-at : goal.overflow_add-at
overflow_add-at c =
    let inside : c.args.q + c.loop-k.k * at c.args.sr 0 + at c.args.sr 0 ≤ length c.args.work.now =
    let a = c.requires.fact_3.apart in
    let o = c.requires.fact_3.room in
    omega (
      arith,
      level_in c.requires.fact_1 c.requires.fact_3 c.loop-k-test.true,
      level-top c.requires.fact_1 c.requires.fact_3,
    ) in
    omega (arith, inside)

pub slice_bounds-gather_first-end : goal.slice_bounds-gather_first-end
slice_bounds-gather_first-end c =
    let room : Room c.args.ly c.args.r 0 c.args.p (c.args.p + count c.args.r)
    c.args.q c.args.b c.args.f (length c.loop-k.work)
    (length c.loop-k.row) =
    rw (c.loop-k.invariant.0, c.loop-k.invariant.1.len) c.requires.fact_3 in
    let fits : at c.args.sr 0 ≤ length c.loop-k.row =
    level-row c.requires.fact_1 (room) in
    fits

pub slice_bounds-gather_first-end-in-loop-k : goal.slice_bounds-gather_first-end-in-loop-k
slice_bounds-gather_first-end-in-loop-k c =
    let room : Room c.args.ly c.args.r 0 c.args.p (c.args.p + count c.args.r)
    c.args.q c.args.b c.args.f (length c.loop-k.work)
    (length c.loop-k.row) =
    rw (c.loop-k.invariant.0, c.loop-k.invariant.1.len) c.requires.fact_3 in
    let fits : at c.args.sr 0 ≤ length c.loop-k.row =
    level-row c.requires.fact_1 (room) in
    sym (length-take-le _ _ (fits))

pub gather_first-requires : goal.gather_first-requires
gather_first-requires c =
    let room : Room c.args.ly c.args.r 0 c.args.p (c.args.p + count c.args.r)
    c.args.q c.args.b c.args.f (length c.loop-k.work)
    (length c.loop-k.row) =
    rw (c.loop-k.invariant.0, c.loop-k.invariant.1.len) c.requires.fact_3 in
    let fits : at c.args.sr 0 ≤ length c.loop-k.row =
    level-row c.requires.fact_1 (room) in
    record {
      fact_1 = c.requires.fact_1;
      fact_2 = c.requires.fact_2;
      fact_3 = level-gather c.requires.fact_1 (room) c.loop-k-test.true
          (length-take-le _ _ (fits));
    }

pub level-requires : goal.level-requires
level-requires c =
    let room : Room c.args.ly c.args.r 0 c.args.p (c.args.p + count c.args.r)
    c.args.q c.args.b c.args.f (length c.loop-k.work)
    (length c.loop-k.row) =
    rw (c.loop-k.invariant.0, c.loop-k.invariant.1.len) c.requires.fact_3 in
    let fits : at c.args.sr 0 ≤ length c.loop-k.row =
    level-row c.requires.fact_1 (room) in
    let kept : length (c.gather_first.new.row
    ++ drop (at c.args.sr 0) c.loop-k.row)
    ≡ length c.args.row.now =
    let n = c.gather_first.auto.row ∙ length-take-le _ _ (fits) in
    simp (length-append, length-drop) (omega (arith, n, fits, c.loop-k.invariant.0)) in
    let room2 : Room c.args.ly c.args.r 0 c.args.p (c.args.p + count c.args.r)
    c.args.q c.args.b c.args.f (length c.gather_first.new.work)
    (length (c.gather_first.new.row
    ++ drop (at c.args.sr 0) c.loop-k.row)) =
    rw (kept, c.gather_first.ensures.laid.len, c.loop-k.invariant.1.len)
    c.requires.fact_3 in
    (c.requires.fact_1, first_next_lem c.requires.fact_1 (room2) c.loop-k-test.true refl)

pub loop-k-preserved : goal.loop-k-preserved
loop-k-preserved c =
    let room : Room c.args.ly c.args.r 0 c.args.p (c.args.p + count c.args.r)
    c.args.q c.args.b c.args.f (length c.loop-k.work)
    (length c.loop-k.row) =
    rw (c.loop-k.invariant.0, c.loop-k.invariant.1.len) c.requires.fact_3 in
    let fits : at c.args.sr 0 ≤ length c.loop-k.row =
    level-row c.requires.fact_1 (room) in
    let kept : length (c.gather_first.new.row
    ++ drop (at c.args.sr 0) c.loop-k.row)
    ≡ length c.args.row.now =
    let n = c.gather_first.auto.row ∙ length-take-le _ _ (fits) in
    simp (length-append, length-drop) (omega (arith, n, fits, c.loop-k.invariant.0)) in (
      c.level.auto.row
          ∙ kept,
      firsts_more c.requires.fact_1 c.requires.fact_2 c.args.work.now c.requires.fact_3 c.loop-k-test.true
          c.loop-k.invariant.1 c.gather_first.ensures.laid c.level.ensures.laid,
    )

pub returns : goal.returns
returns c = record {
  laid = firsts-all c.requires.fact_1 c.requires.fact_2 c.args.work.now c.requires.fact_3
      (omega arith) c.loop-k.invariant.1;
  spent = search rules;
}
