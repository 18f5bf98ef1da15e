use Rattle.std.proofs.Common.{refl, sym, arith}
use Rattle.change_sums.specs.Sums.{sum-none, sum_more}
use Rattle.change_sums.proofs.sum_rows.Goals as goal

pub loop-j-init : goal.loop-j-init
loop-j-init c = sum-none c.args.a.now c.clear.ensures (sym c.clear.auto.to)

pub loop-j-preserved : goal.loop-j-preserved
loop-j-preserved c =
    sum_more _ _ c.loop-j.invariant refl refl (omega arith) c.loop-j.invariant.len c.add_row.ensures
