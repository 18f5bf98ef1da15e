use Prim.Native.Nat.{◌+◌}
use lib.Ieee.{of_bits, binary64}
use Rattle.lists.specs.Table.{Filled}
use Rattle.model_texts.specs.Sheet.{word_on}
use Rattle.sheet_reading.proofs.fill_floats.Given as goal

abbrev pub invariant-loop-k : goal.invariant-loop-k
invariant-loop-k l = Filled l.k (λ j. of_bits binary64 (word_on l.text (l.from + j))) l.initial.to l.to
