use Rattle.std.proofs.Common.{◌∙◌, ◌≡◌, ◌+◌, ◌-◌, ◌*◌, ℕ, arith, length, get_or, take, drop, length-take, length-drop}
use Rattle.std.specs.Float.{nan}
use Rattle.lists.specs.Four.{at}
use Rattle.lists.specs.Table.{table}
use Rattle.model.specs.Poly.{block}
use Rattle.model.specs.Add.{join_at}
use Rattle.blocks.specs.Rows.{along_row}
use Rattle.blocks.specs.ByRow.{by-start, by-row, by-rows, by_fits, row-begins, rows-small, join-begins, joined-row}
use Rattle.blocks.proofs.join_rows.Goals as goal

pub overflow_mul-row-end : goal.overflow_mul-row-end
overflow_mul-row-end c = omega (arith, (rows-small c.requires.to).0)

pub overflow_mul-row-end-2 : goal.overflow_mul-row-end-2
overflow_mul-row-end-2 c = omega (arith, (rows-small c.requires.to).1)

pub loop-row-init : goal.loop-row-init
loop-row-init c = by-start c.requires.to c.requires.full

pub join_row-requires-clause-fact_3 : goal.join_row-requires-clause-fact_3
join_row-requires-clause-fact_3 c =
    let more = row-begins c.requires.to c.loop-row.row c.loop-row-test.true in
    (join-begins c.args.minus c.args.n c.args.r c.args.a.now c.args.to.now c.requires c.loop-row.invariant more).begins

pub next_row-next-requires-clause-fact_2 : goal.next_row-next-requires-clause-fact_2
next_row-next-requires-clause-fact_2 c =
    let more = row-begins c.requires.to c.loop-row.row c.loop-row-test.true in
    join-begins c.args.minus c.args.n c.args.r c.args.a.now c.args.to.now c.requires c.loop-row.invariant more

pub slice_bounds-join_row-end : goal.slice_bounds-join_row-end
slice_bounds-join_row-end c =
    let more = row-begins c.requires.to c.loop-row.row c.loop-row-test.true in
    let fits = by_fits c.requires.to c.requires.full c.loop-row.invariant more in
    omega (arith, fits)

pub loop-row-preserved : goal.loop-row-preserved
loop-row-preserved c =
    let more = row-begins c.requires.to c.loop-row.row c.loop-row-test.true in
    let fits = by_fits c.requires.to c.requires.full c.loop-row.invariant more in
    let w : ℕ = at c.args.r 3 in
    let p : ℕ = c.loop-row.row * w in
    let k : p + w - p ≡ w = omega arith in
    let m : length (take w (drop p c.loop-row.to)) ≡ w = simp (length-take, length-drop) (omega (arith, fits)) in
    let rowed : c.join_row.new.to ≡ table w
    (λ j. join_at c.args.minus (get_or (take w (drop p c.loop-row.to)) j nan) (block c.args.n c.args.a.now) (along_row c.loop-row.i j)) =
    (rw k at c.join_row.ensures) ∙ (rw m) in
    by-row c.requires.to c.requires.full c.loop-row.row c.loop-row.invariant more k
    (joined-row c.args.minus c.args.n c.args.r c.args.a.now c.args.to.now c.requires c.loop-row.invariant more rowed)
    c.next_row-next.ensures

pub returns : goal.returns
returns c = by-rows c.requires.to c.requires.full c.loop-row.row c.loop-row.invariant c.loop-row-test.false
