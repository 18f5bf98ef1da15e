use mathlib.Core.Path.{ap, ◌∙◌}
use native.Mathlib.Omega.{arith}
use lib.Ieee.{of_bits, binary64}
use Rattle.lists.specs.Table.{filled_none, filled_more}
use Rattle.lists.specs.Fill.{filled-all}
use Rattle.sheet_reading.proofs.fill_floats.Goals as goal

pub loop-k-init : goal.loop-k-init
loop-k-init c = filled_none

pub loop-k-preserved : goal.loop-k-preserved
loop-k-preserved c = filled_more c.loop-k.invariant (c.float_of.ensures ∙ ap (of_bits binary64) c.word_at.ensures) (omega arith)

pub shape_of-to : goal.shape_of-to
shape_of-to c = c.loop-k.invariant.len

pub returns : goal.returns
returns c = filled-all c.loop-k.invariant (omega arith) (omega arith)
