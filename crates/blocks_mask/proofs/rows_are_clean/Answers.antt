use Rattle.std.proofs.Common.{◌∙◌, ◌≡◌, ◌+◌, ◌*◌, sym, arith}
use Rattle.lists.specs.Four.{at}
use Rattle.lists.specs.Every.{passing-none, passing_end}
use Rattle.shape_words.specs.Lengths.{sizes-of}
use Rattle.blocks.specs.Rows.{at_first, at_next}
use Rattle.blocks.specs.ByRow.{row-begins, rows-small, rows-end}
use Rattle.blocks_mask.specs.Cleans.{clean-begins, clean-small, clean-fits, clean-more, clean-stop, clean-told}
use Rattle.blocks_mask.proofs.rows_are_clean.Goals as goal

pub overflow_mul-row-end : goal.overflow_mul-row-end
overflow_mul-row-end c = omega (arith, (rows-small (sizes-of c.requires.fact_1.to)).0)

pub overflow_mul-row-end-2 : goal.overflow_mul-row-end-2
overflow_mul-row-end-2 c = omega (arith, (rows-small (sizes-of c.requires.fact_1.to)).1)

pub loop-row-init : goal.loop-row-init
loop-row-init c = let z : 0 * at c.args.n 3 ≡ 0 = omega arith in rw z (at_first (sizes-of c.requires.fact_1.to), passing-none _ _ _)

pub overflow_add-i : goal.overflow_add-i
overflow_add-i c =
    let more = row-begins (sizes-of c.requires.fact_1.to) c.loop-row.row c.loop-row-test.true in
    let small = clean-small c.args.n c.args.cap c.args.of.now c.requires.fact_2 c.requires.fact_1 c.loop-row.invariant.0 c.loop-row.invariant.1 more in
    omega (arith, small)

pub overflow_add-i-in-loop-row : goal.overflow_add-i-in-loop-row
overflow_add-i-in-loop-row c =
    let more = row-begins (sizes-of c.requires.fact_1.to) c.loop-row.row c.loop-row-test.true in
    let small = clean-small c.args.n c.args.cap c.args.of.now c.requires.fact_2 c.requires.fact_1 c.loop-row.invariant.0 c.loop-row.invariant.1 more in
    omega (arith, small)

pub row_is_clean-requires : goal.row_is_clean-requires
row_is_clean-requires c =
    let more = row-begins (sizes-of c.requires.fact_1.to) c.loop-row.row c.loop-row-test.true in
    let small = clean-small c.args.n c.args.cap c.args.of.now c.requires.fact_2 c.requires.fact_1 c.loop-row.invariant.0 c.loop-row.invariant.1 more in
    omega (arith, small)

pub returns-then-not-row_is_clean : goal.returns-then-not-row_is_clean
returns-then-not-row_is_clean c =
    let more = row-begins (sizes-of c.requires.fact_1.to) c.loop-row.row c.loop-row-test.true in
    let told = clean-told c.args.n c.args.cap c.args.of.now c.requires.fact_2 c.requires.fact_1
    c.loop-row.invariant.0 c.loop-row.invariant.1 more c.row_is_clean.ensures in
    sym (clean-stop c.args.n c.args.cap c.args.of.now c.requires.fact_2 c.requires.fact_1 c.loop-row.invariant.0
    c.loop-row.invariant.1 more (sym told ∙ c.if-not-row_is_clean.true))

pub next_row-next-requires : goal.next_row-next-requires
next_row-next-requires c =
    let more = row-begins (sizes-of c.requires.fact_1.to) c.loop-row.row c.loop-row-test.true in record {
      fact_1 = sizes-of c.requires.fact_1.to;
      fact_2 = clean-begins c.args.n c.args.cap c.args.of.now c.requires.fact_2 c.requires.fact_1 c.loop-row.invariant.0
          c.loop-row.invariant.1 more;
    }

pub slice_bounds-row_is_clean-end : goal.slice_bounds-row_is_clean-end
slice_bounds-row_is_clean-end c =
    let more = row-begins (sizes-of c.requires.fact_1.to) c.loop-row.row c.loop-row-test.true in
    let fits = clean-fits c.args.n c.args.cap c.args.of.now c.requires.fact_2 c.requires.fact_1 c.loop-row.invariant.0 c.loop-row.invariant.1 more in
    omega (arith, fits, c.requires.fact_1.full)

pub loop-row-preserved : goal.loop-row-preserved
loop-row-preserved c =
    let more = row-begins (sizes-of c.requires.fact_1.to) c.loop-row.row c.loop-row-test.true in
    let told = clean-told c.args.n c.args.cap c.args.of.now c.requires.fact_2 c.requires.fact_1
    c.loop-row.invariant.0 c.loop-row.invariant.1 more c.row_is_clean.ensures in
    let next : (c.loop-row.row + 1) * at c.args.n 3 ≡ c.loop-row.row * at c.args.n 3 + at c.args.n 3 = omega arith in
    rw next (
      at_next (sizes-of c.requires.fact_1.to) c.loop-row.invariant.0 c.next_row-next.ensures,
      clean-more c.args.n c.args.cap c.args.of.now c.requires.fact_2 c.requires.fact_1 c.loop-row.invariant.0
          c.loop-row.invariant.1 more (sym told ∙ c.if-not-row_is_clean.false),
    )

pub returns : goal.returns
returns c = sym (passing_end c.loop-row.invariant.1 (rows-end (sizes-of c.requires.fact_1.to) c.loop-row.row c.loop-row-test.false))
