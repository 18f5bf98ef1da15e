use mathlib.Core.Path.{ap, ◌∙◌}
use native.Mathlib.Omega.{arith}
use lib.Ieee.{of_bits, binary64}
use Rattle.lists.specs.Table.{filled_none, filled_more}
use Rattle.npy_answers.proofs.fill_values.Goals as goal

pub loop-k-init : goal.loop-k-init
loop-k-init c = filled_none

pub loop-k-preserved : goal.loop-k-preserved
loop-k-preserved c = filled_more c.loop-k.invariant (c.float_of.ensures ∙ ap (of_bits binary64) c.word_at.ensures) (omega arith)
