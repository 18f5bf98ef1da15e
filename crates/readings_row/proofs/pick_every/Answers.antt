use Rattle.std.proofs.Common.{refl, arith}
use Rattle.readings_row.specs.Stretches.{going-none, one_more}
use Rattle.readings_row.proofs.pick_every.Goals as goal

pub loop-x-init : goal.loop-x-init
loop-x-init c = going-none

pub loop-x-preserved : goal.loop-x-preserved
loop-x-preserved c = one_more c.requires c.loop-x.invariant (omega (arith, c.loop-x.invariant.done.len)) refl
