use native.Mathlib.Omega.{arith}
use mathlib.Core.Path.{ap, ◌∙◌}
use lib.Ieee.{of_bits, binary32}
use Rattle.lists.specs.Table.{filled_none, filled_more}
use Rattle.npy_files.specs.Values.{value_at}
use Rattle.npy_bytes.proofs.fill_4.Goals as goal

pub loop-k-init : goal.loop-k-init
loop-k-init c = filled_none

pub loop-k-preserved : goal.loop-k-preserved
unfolding value_at
loop-k-preserved c = filled_more c.loop-k.invariant (c.float_of_4.ensures ∙ ap (of_bits binary32) c.little_4.ensures.0) (omega arith)
