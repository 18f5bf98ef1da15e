use borrow.Author.Tests.{not-true, not-false}
use native.Mathlib.Omega.{arith}
use mathlib.Core.Path.{sym, ap}
use mathlib.Core.List.{List, ◌++◌}
use lib.ListN.{drop}
use lib.Ieee.{Float}
use lib.Seq.{length-take-le}
use Rattle.npy.specs.Reads.{refused, read-other, read-sizes, read_short, read-bytes, read-inside, read-unlike, read_fits, read_done}
use Rattle.npy.specs.Reads.{head_ruled, head-lengths}
use Rattle.npy.proofs.read.Goals as goal

pub returns-then-not-opened : goal.returns-then-not-opened
returns-then-not-opened c =
    refused 10 c.by.ensures (read-other c.args.file.now c.args.out.now c.open_file-opened.ensures (not-true _ c.if-not-opened.true))

pub returns-then-not-good_header : goal.returns-then-not-good_header
returns-then-not-good_header c =
    refused 5 c.by-then-not-good_header.ensures (read-sizes c.args.file.now c.args.out.now c.open_file-opened.ensures (not-false _ c.if-not-opened.false)
    c.head_of-head.ensures c.good_header.ensures c.if-not-good_header.true)

pub count_of-count-requires : goal.count_of-count-requires
count_of-count-requires c =
    head-lengths c.args.file.now c.args.out.now c.open_file-opened.ensures (not-false _ c.if-not-opened.false) c.head_of-head.ensures
    c.good_header.ensures c.if-not-good_header.false

pub returns-then-out-count : goal.returns-then-out-count
returns-then-out-count c =
    refused 5 c.by-then-out-count.ensures (read_short c.args.file.now c.args.out.now c.open_file-opened.ensures (not-false _ c.if-not-opened.false)
    c.head_of-head.ensures c.good_header.ensures c.if-not-good_header.false c.count_of-count.ensures c.if-out-count.true)

pub overflow_mul-width : goal.overflow_mul-width
overflow_mul-width c =
    omega (
      arith,
      read-bytes c.args.file.now c.args.out.now c.open_file-opened.ensures (not-false _ c.if-not-opened.false)
          c.head_of-head.ensures c.good_header.ensures c.if-not-good_header.false c.count_of-count.ensures,
    )

pub overflow_add-start : goal.overflow_add-start
overflow_add-start c =
    omega (
      arith,
      read-bytes c.args.file.now c.args.out.now c.open_file-opened.ensures (not-false _ c.if-not-opened.false)
          c.head_of-head.ensures c.good_header.ensures c.if-not-good_header.false c.count_of-count.ensures,
      read-inside c.args.file.now
          c.args.out.now c.open_file-opened.ensures (not-false _ c.if-not-opened.false) c.head_of-head.ensures c.good_header.ensures
          c.if-not-good_header.false c.count_of-count.ensures,
    )

pub returns-then-file-start : goal.returns-then-file-start
returns-then-file-start c =
    refused 10 c.by-then-file-start.ensures (read-unlike c.args.file.now c.args.out.now c.open_file-opened.ensures (not-false _ c.if-not-opened.false)
    c.head_of-head.ensures c.good_header.ensures c.if-not-good_header.false c.count_of-count.ensures c.if-out-count.false c.if-file-start.true)

pub slice_bounds-fill_as-end-2 : goal.slice_bounds-fill_as-end-2
slice_bounds-fill_as-end-2 c =
    sym (length-take-le c.count_of-count.result c.args.out.now c.if-out-count.false)

pub fill_as-requires : goal.fill_as-requires
fill_as-requires c =
    record {
      fact_1 = head-lengths c.args.file.now c.args.out.now c.open_file-opened.ensures (not-false _ c.if-not-opened.false) c.head_of-head.ensures
          c.good_header.ensures c.if-not-good_header.false;
      fact_2 = read_fits c.args.file.now c.args.out.now c.open_file-opened.ensures
          (not-false _ c.if-not-opened.false) c.head_of-head.ensures c.good_header.ensures c.if-not-good_header.false c.count_of-count.ensures
          c.if-out-count.false c.if-file-start.false (length-take-le c.count_of-count.result c.args.out.now c.if-out-count.false);
    }

pub pack-requires : goal.pack-requires
pack-requires c =
    head_ruled c.args.file.now c.args.out.now c.open_file-opened.ensures (not-false _ c.if-not-opened.false) c.head_of-head.ensures
    c.good_header.ensures c.if-not-good_header.false

pub returns : goal.returns
returns c =
    read_done c.args.file.now c.args.out.now c.open_file-opened.ensures (not-false _ c.if-not-opened.false) c.head_of-head.ensures
    c.good_header.ensures c.if-not-good_header.false c.count_of-count.ensures c.if-out-count.false c.if-file-start.false c.pack.ensures (ap (λ
    (x : List Float). x ++ drop c.count_of-count.result c.args.out.now) c.fill_as.ensures)
