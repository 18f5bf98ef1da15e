use native.Mathlib.Omega.{arith}
use lib.Ieee.{of_bits}
use Rattle.product_lines.specs.Fours.{head_in, tail_in, shared_in, four-lines}
use Rattle.product_lines.proofs.four_by.Goals as goal

pub from-requires : goal.from-requires
from-requires c = let p = c.requires.small in omega arith

pub sum_on-s0-requires : goal.sum_on-s0-requires
sum_on-s0-requires c = head_in c.requires (omega arith) (omega arith) c.from.ensures

pub overflow_add-k : goal.overflow_add-k
overflow_add-k c = let p = c.requires.small in omega arith

pub overflow_add-k-2 : goal.overflow_add-k-2
overflow_add-k-2 c = let p = c.requires.small in omega arith

pub from-requires-2 : goal.from-requires-2
from-requires-2 c = let p = c.requires.small in omega arith

pub sum_on-s1-requires : goal.sum_on-s1-requires
sum_on-s1-requires c = head_in c.requires (omega arith) (omega arith) c.from-2.ensures

pub overflow_add-k-3 : goal.overflow_add-k-3
overflow_add-k-3 c = let p = c.requires.small in omega arith

pub overflow_add-k-4 : goal.overflow_add-k-4
overflow_add-k-4 c = let p = c.requires.small in omega arith

pub from-requires-3 : goal.from-requires-3
from-requires-3 c = let p = c.requires.small in omega arith

pub sum_on-s2-requires : goal.sum_on-s2-requires
sum_on-s2-requires c = head_in c.requires (omega arith) (omega arith) c.from-3.ensures

pub four_on-m-requires : goal.four_on-m-requires
four_on-m-requires c = shared_in c.requires

pub overflow_add-k-5 : goal.overflow_add-k-5
overflow_add-k-5 c =
    let p = c.requires.small in omega arith

pub overflow_add-k-6 : goal.overflow_add-k-6
overflow_add-k-6 c =
    let p = c.requires.small in omega arith

pub upto-requires : goal.upto-requires
upto-requires c =
    let p = c.requires.small in omega arith

pub sum_on-z1-requires : goal.sum_on-z1-requires
sum_on-z1-requires c =
    tail_in c.requires (omega arith) (omega arith) c.upto.ensures

pub overflow_add-k-7 : goal.overflow_add-k-7
overflow_add-k-7 c =
    let p = c.requires.small in omega arith

pub overflow_add-k-8 : goal.overflow_add-k-8
overflow_add-k-8 c =
    let p = c.requires.small in omega arith

pub upto-requires-2 : goal.upto-requires-2
upto-requires-2 c =
    let p = c.requires.small in omega arith

pub sum_on-z2-requires : goal.sum_on-z2-requires
sum_on-z2-requires c =
    tail_in c.requires (omega arith) (omega arith) c.upto-2.ensures

pub overflow_add-k-9 : goal.overflow_add-k-9
overflow_add-k-9 c =
    let p = c.requires.small in omega arith

pub overflow_add-k-10 : goal.overflow_add-k-10
overflow_add-k-10 c =
    let p = c.requires.small in omega arith

pub upto-requires-3 : goal.upto-requires-3
upto-requires-3 c =
    let p = c.requires.small in omega arith

pub sum_on-z3-requires : goal.sum_on-z3-requires
sum_on-z3-requires c =
    tail_in c.requires (omega arith) (omega arith) c.upto-3.ensures

pub returns : goal.returns
unfolding of_bits
returns c =
    four-lines c.requires c.args.xs.now c.args.ys.now c.four_on-m.result c.from.ensures
    c.sum_on-s0.ensures c.from-2.ensures c.sum_on-s1.ensures c.from-3.ensures
    c.sum_on-s2.ensures c.four_on-m.ensures
    c.upto.ensures c.sum_on-z1.ensures
    c.upto-2.ensures c.sum_on-z2.ensures
    c.upto-3.ensures c.sum_on-z3.ensures
