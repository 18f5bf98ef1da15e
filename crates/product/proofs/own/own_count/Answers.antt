use mathlib.Core.Bool.{true, ◌&&◌}
use mathlib.Core.Path.{◌≡◌}
use Prim.Native.Nat.{◌%◌, ◌^◌}
use lib.Dec.{eqb}
use lib.Bits.{and_mask}
use native.Mathlib.Omega.{arith}
use Rattle.product.specs.Owned.{count_bad, tested-good, tested_ruled, count_yes, count_no}
use Rattle.product.proofs.own.own_count.Goals as goal

pub returns-then-not-is_good-keeps_header : goal.returns-then-not-is_good-keeps_header
returns-then-not-is_good-keeps_header c =
    count_bad c.args.ah c.args.am c.args.bh c.args.bm c.args.lent c.args.scratch
    c.header_of-x.ensures c.header_of-y.ensures
    c.is_good.ensures c.keeps_header.ensures (rw (and_mask c.args.bh 5) at c.if-not-is_good-keeps_header.true)

pub stored_of-n-requires : goal.stored_of-n-requires
stored_of-n-requires c =
    let tested : ((c.is_good.result && c.keeps_header.result)
    && eqb (c.args.bh % 2 ^ 5) 0) ≡ true =
    rw (and_mask c.args.bh 5) at c.if-not-is_good-keeps_header.false in
    (tested-good c.args.ah c.args.am c.args.bh c.args.bm c.args.lent
    c.args.scratch c.header_of-x.ensures
    c.header_of-y.ensures c.is_good.ensures
    c.keeps_header.ensures (tested)).regular.rules

pub stored_of-m-requires : goal.stored_of-m-requires
stored_of-m-requires c =
    let tested : ((c.is_good.result && c.keeps_header.result)
    && eqb (c.args.bh % 2 ^ 5) 0) ≡ true =
    rw (and_mask c.args.bh 5) at c.if-not-is_good-keeps_header.false in
    tested_ruled c.args.ah c.args.am c.args.bh c.args.bm c.args.lent
    c.args.scratch c.header_of-x.ensures
    c.header_of-y.ensures c.is_good.ensures
    c.keeps_header.ensures (tested)

pub overflow_mul-n : goal.overflow_mul-n
overflow_mul-n c =
    let tested : ((c.is_good.result && c.keeps_header.result)
    && eqb (c.args.bh % 2 ^ 5) 0) ≡ true =
    rw (and_mask c.args.bh 5) at c.if-not-is_good-keeps_header.false in
    let m =
    (tested-good c.args.ah c.args.am c.args.bh c.args.bm c.args.lent
    c.args.scratch c.header_of-x.ensures
    c.header_of-y.ensures
    c.is_good.ensures c.keeps_header.ensures
    (tested)).most in
    omega (arith, m, c.stored_of-n.ensures)

pub returns-then-n-m : goal.returns-then-n-m
returns-then-n-m c =
    let tested : ((c.is_good.result && c.keeps_header.result)
    && eqb (c.args.bh % 2 ^ 5) 0) ≡ true =
    rw (and_mask c.args.bh 5) at c.if-not-is_good-keeps_header.false in
    count_yes c.args.ah c.args.am c.args.bh c.args.bm c.args.lent
    c.args.scratch c.header_of-x.ensures
    c.header_of-y.ensures
    c.is_good.ensures
    c.keeps_header.ensures (tested)
    c.stored_of-n.ensures c.stored_of-m.ensures c.if-n-m.true

pub returns : goal.returns
returns c =
    let tested : ((c.is_good.result && c.keeps_header.result)
    && eqb (c.args.bh % 2 ^ 5) 0) ≡ true =
    rw (and_mask c.args.bh 5) at c.if-not-is_good-keeps_header.false in
    count_no c.args.ah c.args.am c.args.bh c.args.bm c.args.lent
    c.args.scratch c.header_of-x.ensures
    c.header_of-y.ensures
    c.is_good.ensures
    c.keeps_header.ensures (tested)
    c.stored_of-n.ensures c.stored_of-m.ensures c.if-n-m.false
