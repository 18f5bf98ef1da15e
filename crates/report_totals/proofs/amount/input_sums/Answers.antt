use native.Mathlib.Omega.{arith}
use mathlib.Core.Path.{refl, ap, ◌∙◌}
use lib.ListN.{length, take}
use lib.Seq.{take_at}
use Rattle.lists.specs.Table.{filled_none, filled_more, filled_end, length-table}
use Rattle.report_totals.proofs.amount.input_sums.Goals as goal

pub loop-i-init : goal.loop-i-init
loop-i-init c = filled_none

pub input_sum-requires : goal.input_sum-requires
input_sum-requires c = record { fact_1 = c.requires; fact_2 = c.loop-i-test.true }

pub offset_bounds-sums-i : goal.offset_bounds-sums-i
offset_bounds-sums-i c = omega (arith, c.loop-i.invariant.len, c.requires.few)

pub bounds-sums-i : goal.bounds-sums-i
bounds-sums-i c = omega (arith, c.loop-i.invariant.len, c.requires.few)

pub loop-i-preserved : goal.loop-i-preserved
loop-i-preserved c = filled_more c.loop-i.invariant c.input_sum.ensures (omega (arith, c.requires.few))

pub returns : goal.returns
returns c = (
  c.loop-i.invariant.len ∙ refl,
  ap (take (length c.args.headers.now)) (filled_end c.loop-i.invariant (omega arith) c.loop-i-test.false) ∙ take_at _ _ _ (length-table _ _),
)
