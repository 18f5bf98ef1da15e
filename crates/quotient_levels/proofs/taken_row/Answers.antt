use lib.ListN.{length-set}
use Prim.Native.Nat.{◌+◌}
use mathlib.Core.Path.{refl}
use native.Mathlib.Omega.{arith}
use Rattle.shape_words.specs.Lengths.{row_small}
use Rattle.shape_words.specs.Strides.{span_pos}
use Rattle.quotient_levels.specs.Taken.{one_summing, one-taken}
use Rattle.quotient_levels.proofs.taken_row.Goals as goal

pub from-lo-requires : goal.from-lo-requires
from-lo-requires c =
    let t = c.requires.fact_2 in row_small c.requires.fact_1.strided.result t.some t.row

pub sum_on-requires : goal.sum_on-requires
sum_on-requires c =
    one_summing c.requires.fact_1 c.args.done.now c.args.ys.now c.requires.fact_2 c.if-sr-v-eq1.true c.from-lo.ensures

pub bounds-row-0 : goal.bounds-row-0
bounds-row-0 c =
    let t = c.requires.fact_2 in
    let h = t.some in
    omega (arith, t.full, span_pos {v = c.args.v + 1} c.requires.fact_1.strided.result (omega arith))

pub returns-then-sr-v-eq1 : goal.returns-then-sr-v-eq1
returns-then-sr-v-eq1 c =
    one-taken c.requires.fact_1 c.args.done.now c.args.ys.now c.requires.fact_2
    c.if-sr-v-eq1.true c.args.row.now refl c.from-lo.ensures c.sum_on.ensures

pub taken_by_rows-requires : goal.taken_by_rows-requires
taken_by_rows-requires c =
    record { fact_1 = c.requires.fact_1.strided; fact_2 = c.requires.fact_2 }

pub returns : goal.returns
returns c = c.taken_by_rows.ensures
