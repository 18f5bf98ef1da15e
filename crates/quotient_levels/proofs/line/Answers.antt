use native.Mathlib.Omega.{arith}
use Prim.Native.Nat.{◌+◌, ◌-◌, ◌≤◌, ◌<◌}
use lib.ListN.{length}
use Rattle.shape_words.specs.Lengths.{row_small}
use Rattle.quotient_levels.specs.Line.{line-none, line_in_lem, line_summing, line-more, line-all}
use Rattle.quotient_levels.proofs.line.Goals as goal

pub loop-k-init : goal.loop-k-init
loop-k-init c = line-none c.args.work.now c.requires

pub overflow_add-end : goal.overflow_add-end
overflow_add-end c =
    let lies : (c.args.f ≤ length c.loop-k.work)
    × (c.args.q + c.loop-k.k < length c.loop-k.work)
    × (c.args.p + c.loop-k.k < length c.loop-k.work) × (c.args.b < c.args.f) =
    line_in_lem c.args.work.now c.requires c.loop-k-test.true c.loop-k.invariant in
    let i = lies in omega (arith, i.0, i.1, i.2, i.3)

pub from-lo-requires : goal.from-lo-requires
from-lo-requires c = let g = c.requires.single in row_small g.result g.some c.loop-k-test.true

pub slice_bounds-sum_on-end : goal.slice_bounds-sum_on-end
slice_bounds-sum_on-end c =
    let lies : (c.args.f ≤ length c.loop-k.work)
    × (c.args.q + c.loop-k.k < length c.loop-k.work)
    × (c.args.p + c.loop-k.k < length c.loop-k.work) × (c.args.b < c.args.f) =
    line_in_lem c.args.work.now c.requires c.loop-k-test.true c.loop-k.invariant in
    let i = lies in omega (arith, i.0, i.1, i.2, i.3)

pub slice_bounds-sum_on-end-in-loop-k : goal.slice_bounds-sum_on-end-in-loop-k
slice_bounds-sum_on-end-in-loop-k c =
    let lies : (c.args.f ≤ length c.loop-k.work)
    × (c.args.q + c.loop-k.k < length c.loop-k.work)
    × (c.args.p + c.loop-k.k < length c.loop-k.work) × (c.args.b < c.args.f) =
    line_in_lem c.args.work.now c.requires c.loop-k-test.true c.loop-k.invariant in
    let i = lies in omega (arith, i.0, i.1, i.2, i.3)

pub sum_on-sum-requires : goal.sum_on-sum-requires
sum_on-sum-requires c =
    line_summing c.args.work.now c.requires c.loop-k-test.true
    c.loop-k.invariant c.from-lo.ensures

pub overflow_add-p : goal.overflow_add-p
overflow_add-p c =
    let lies : (c.args.f ≤ length c.loop-k.work)
    × (c.args.q + c.loop-k.k < length c.loop-k.work)
    × (c.args.p + c.loop-k.k < length c.loop-k.work) × (c.args.b < c.args.f) =
    line_in_lem c.args.work.now c.requires c.loop-k-test.true c.loop-k.invariant in
    let i = lies in omega (arith, i.0, i.1, i.2, i.3)

pub bounds-work-p : goal.bounds-work-p
bounds-work-p c =
    let lies : (c.args.f ≤ length c.loop-k.work)
    × (c.args.q + c.loop-k.k < length c.loop-k.work)
    × (c.args.p + c.loop-k.k < length c.loop-k.work) × (c.args.b < c.args.f) =
    line_in_lem c.args.work.now c.requires c.loop-k-test.true c.loop-k.invariant in
    (lies).2

pub through-c-requires : goal.through-c-requires
through-c-requires c = c.requires.single.some

pub bounds-work-b : goal.bounds-work-b
bounds-work-b c =
    let lies : (c.args.f ≤ length c.loop-k.work)
    × (c.args.q + c.loop-k.k < length c.loop-k.work)
    × (c.args.p + c.loop-k.k < length c.loop-k.work) × (c.args.b < c.args.f) =
    line_in_lem c.args.work.now c.requires c.loop-k-test.true c.loop-k.invariant in
    let i = lies in omega (arith, i.0, i.1, i.2, i.3)

pub bounds-work-end : goal.bounds-work-end
bounds-work-end c =
    let lies : (c.args.f ≤ length c.loop-k.work)
    × (c.args.q + c.loop-k.k < length c.loop-k.work)
    × (c.args.p + c.loop-k.k < length c.loop-k.work) × (c.args.b < c.args.f) =
    line_in_lem c.args.work.now c.requires c.loop-k-test.true c.loop-k.invariant in
    (lies).1

pub loop-k-preserved : goal.loop-k-preserved
loop-k-preserved c =
    line-more c.args.work.now c.requires c.loop-k-test.true c.loop-k.invariant
    c.from-lo.ensures
    c.sum_on-sum.ensures c.through-c.ensures

pub returns : goal.returns
returns c =
    line-all c.args.work.now c.requires (omega arith) c.loop-k.invariant
