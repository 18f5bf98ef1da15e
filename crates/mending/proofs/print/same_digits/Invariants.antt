use Prim.Native.Nat.{◌+◌}
use lib.Dec.{eqb}
use Rattle.lists.specs.Every.{Passing}
use Rattle.model_texts.specs.Hex.{byte_at, hex_digit}
use Rattle.mending.proofs.print.same_digits.Given as goal

abbrev pub invariant-loop-k : goal.invariant-loop-k
invariant-loop-k l = Passing (λ j. eqb (byte_at l.text (l.at + j)) (hex_digit l.word j)) 16 0 l.k
