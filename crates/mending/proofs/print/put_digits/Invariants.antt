use Prim.Native.Nat.{◌+◌}
use Rattle.sheet_text.specs.Put.{PutTable}
use Rattle.model_texts.specs.Hex.{byte_at}
use Rattle.mending.proofs.print.put_digits.Given as goal

abbrev pub invariant-loop-k : goal.invariant-loop-k
invariant-loop-k l = PutTable 16 (λ j. byte_at l.text (l.from + j)) l.at l.initial.to l.to l.k
