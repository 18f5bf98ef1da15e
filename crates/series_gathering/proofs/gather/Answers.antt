use native.Mathlib.Omega.{arith}
use mathlib.Core.Bool.{false}
use mathlib.Core.Path.{refl, ap, ◌∙◌}
use Prim.Native.Nat.{ℕ}
use Rattle.shape_words.specs.Lengths.{row_small}
use Rattle.series_gathering.specs.Gather.{gathered, row_one_lem, sums, sum_is, exp-reach}
use Rattle.series_gathering.proofs.gather.Goals as goal

pub upto-hi-requires : goal.upto-hi-requires
upto-hi-requires c =
    row_small c.requires.fact_1.strided.result c.requires.fact_2.some c.requires.fact_2.turn

pub sum_on-requires : goal.sum_on-requires
sum_on-requires c =
    sums c.requires.fact_1 c.requires.fact_2 c.if-sr-v-eq1.true c.upto-hi.ensures

pub bounds-row-0 : goal.bounds-row-0
bounds-row-0 c =
    omega (arith, c.requires.fact_2.full, row_one_lem c.requires.fact_1 c.requires.fact_2 c.if-sr-v-eq1.true)

pub returns-then-sr-v-eq1 : goal.returns-then-sr-v-eq1
returns-then-sr-v-eq1 c =
    sum_is c.requires.fact_1 c.requires.fact_2 c.if-sr-v-eq1.true c.args.xs.now c.args.done.now
    c.args.row.now c.upto-hi.ensures refl c.sum_on.ensures

pub gather_rows-requires : goal.gather_rows-requires
gather_rows-requires c =
    record { fact_1 = c.requires.fact_1.strided; fact_2 = c.requires.fact_2; fact_3 = exp-reach c.upto-hi.ensures }

pub returns : goal.returns
returns c =
    c.gather_rows.ensures ∙ ap
    (λ (b : ℕ). gathered false c.args.lx c.args.r c.args.v c.args.k 1 b
    c.args.xs.now c.args.done.now) c.upto-hi.ensures
