use Prim.Native.Nat.{◌+◌, ◌*◌}
use lib.Ieee.{of_bits, binary64}
use Rattle.lists.specs.Table.{Filled}
use Rattle.model_texts.specs.Hex.{word_at}
use Rattle.npy_answers.proofs.fill_values.Given as goal

abbrev pub invariant-loop-k : goal.invariant-loop-k
invariant-loop-k l = Filled l.k (λ j. of_bits binary64
    (word_at l.text (l.start + 17 * (1 + j)))) l.initial.to l.to
