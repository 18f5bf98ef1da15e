use Rattle.std.proofs.Common.{◌∙◌, ◌≡◌, ◌+◌, ◌-◌, ◌*◌, ℕ, arith, length, take, drop, length-take, length-drop}
use Rattle.lists.specs.Four.{at}
use Rattle.lists.specs.Table.{table}
use Rattle.shape_words.specs.Lengths.{sizes-of}
use Rattle.blocks.specs.ByRow.{by-start, by-row, by-rows, by_fits, row-begins, rows-small}
use Rattle.blocks_mask.specs.Masks.{masked_at, mask-begins, mask-small, masked_row}
use Rattle.blocks_mask.proofs.mask_rows.Goals as goal

pub overflow_mul-row-end : goal.overflow_mul-row-end
overflow_mul-row-end c = omega (arith, (rows-small (sizes-of c.requires.to)).0)

pub overflow_mul-row-end-2 : goal.overflow_mul-row-end-2
overflow_mul-row-end-2 c = omega (arith, (rows-small (sizes-of c.requires.to)).1)

pub loop-row-init : goal.loop-row-init
loop-row-init c = by-start (sizes-of c.requires.to) c.requires.full

pub overflow_add-i : goal.overflow_add-i
overflow_add-i c =
    let more = row-begins (sizes-of c.requires.to) c.loop-row.row c.loop-row-test.true in
    let small = mask-small c.args.n c.args.cap c.args.to.now c.requires c.loop-row.invariant more in
    omega (arith, small)

pub overflow_add-i-in-loop-row : goal.overflow_add-i-in-loop-row
overflow_add-i-in-loop-row c =
    let more = row-begins (sizes-of c.requires.to) c.loop-row.row c.loop-row-test.true in
    let small = mask-small c.args.n c.args.cap c.args.to.now c.requires c.loop-row.invariant more in
    omega (arith, small)

pub mask_row-requires : goal.mask_row-requires
mask_row-requires c =
    let more = row-begins (sizes-of c.requires.to) c.loop-row.row c.loop-row-test.true in
    let small = mask-small c.args.n c.args.cap c.args.to.now c.requires c.loop-row.invariant more in
    omega (arith, small)

pub next_row-next-requires : goal.next_row-next-requires
next_row-next-requires c =
    let more = row-begins (sizes-of c.requires.to) c.loop-row.row c.loop-row-test.true in
    record { fact_1 = sizes-of c.requires.to; fact_2 = mask-begins c.args.n c.args.cap c.args.to.now c.requires c.loop-row.invariant more }

pub slice_bounds-mask_row-end : goal.slice_bounds-mask_row-end
slice_bounds-mask_row-end c =
    let more = row-begins (sizes-of c.requires.to) c.loop-row.row c.loop-row-test.true in
    let fits = by_fits (sizes-of c.requires.to) c.requires.full c.loop-row.invariant more in
    omega (arith, fits)

pub loop-row-preserved : goal.loop-row-preserved
loop-row-preserved c =
    let more = row-begins (sizes-of c.requires.to) c.loop-row.row c.loop-row-test.true in
    let fits = by_fits (sizes-of c.requires.to) c.requires.full c.loop-row.invariant more in
    let w : ℕ = at c.args.n 3 in
    let p : ℕ = c.loop-row.row * w in
    let k : p + w - p ≡ w = omega arith in
    let m : length (take w (drop p c.loop-row.to)) ≡ w = simp (length-take, length-drop) (omega (arith, fits)) in
    let rowed : c.mask_row.new.to ≡ table w
    (masked_at (at c.loop-row.i 0 + at c.loop-row.i 1 + at c.loop-row.i 2) c.args.cap (take w (drop p c.loop-row.to))) =
    (rw k at c.mask_row.ensures) ∙ (rw m) in
    by-row (sizes-of c.requires.to) c.requires.full c.loop-row.row c.loop-row.invariant more k
    (masked_row c.args.n c.args.cap c.args.to.now c.requires c.loop-row.invariant more rowed) c.next_row-next.ensures

pub returns : goal.returns
returns c = by-rows (sizes-of c.requires.to) c.requires.full c.loop-row.row c.loop-row.invariant c.loop-row-test.false
