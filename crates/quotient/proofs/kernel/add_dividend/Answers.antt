use lib.Dec.{lit<}
use native.Mathlib.Omega.{arith}
use mathlib.Core.Path.{refl, sym, ap, ◌∙◌}
use lib.ListN.{length, length-take, length-drop}
use Rattle.lists.specs.Table.{length-table}
use Rattle.quotient.specs.First.{row_lengths_lem, dividend_in, adding-row, row_added, row_kept, row_count}
use Rattle.quotient.proofs.kernel.add_dividend.Goals as goal

pub bounds-lx-0 : goal.bounds-lx-0
bounds-lx-0 c = lit< tt

pub returns-then-lx-k : goal.returns-then-lx-k
returns-then-lx-k c =
    row_kept c.args.xs.now c.requires c.if-lx-k.true c.args.row.now refl

pub bounds-lx-1 : goal.bounds-lx-1
bounds-lx-1 c = lit< tt

pub bounds-lx-2 : goal.bounds-lx-2
bounds-lx-2 c = lit< tt

pub bounds-lx-3 : goal.bounds-lx-3
bounds-lx-3 c = lit< tt

pub bounds-r-1 : goal.bounds-r-1
bounds-r-1 c = lit< tt

pub bounds-r-2 : goal.bounds-r-2
bounds-r-2 c = lit< tt

pub bounds-r-3 : goal.bounds-r-3
bounds-r-3 c = lit< tt

pub count_of-requires : goal.count_of-requires
count_of-requires c = row_lengths_lem c.requires.left

pub overflow_mul-from : goal.overflow_mul-from
overflow_mul-from c = omega (arith, dividend_in c.requires (omega (arith, c.if-lx-k.false)) c.count_of.ensures)

pub offset_bounds-xs-from : goal.offset_bounds-xs-from
offset_bounds-xs-from c = omega (arith, dividend_in c.requires (omega (arith, c.if-lx-k.false)) c.count_of.ensures)

pub slice_bounds-join_block-count : goal.slice_bounds-join_block-count
slice_bounds-join_block-count c = omega (arith, dividend_in c.requires (omega (arith, c.if-lx-k.false)) c.count_of.ensures)

pub slice_bounds-join_block-start : goal.slice_bounds-join_block-start
slice_bounds-join_block-start c = omega (arith, dividend_in c.requires (omega (arith, c.if-lx-k.false)) c.count_of.ensures)

pub join_block-requires : goal.join_block-requires
join_block-requires c =
    adding-row c.requires
    (omega (arith, c.if-lx-k.false)) c.count_of.ensures
    (simp (length-take, length-drop) (omega arith)) refl

pub returns : goal.returns
returns c =
    row_added c.args.xs.now c.requires
    (omega (arith, c.if-lx-k.false)) c.args.row.now
    c.count_of.ensures c.join_block.ensures
