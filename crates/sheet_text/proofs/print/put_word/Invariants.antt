use Rattle.sheet_text.specs.Put.{PutTable}
use Rattle.model_texts.specs.Hex.{hex_digit}
use Rattle.sheet_text.proofs.print.put_word.Given as goal

abbrev pub invariant-loop-k : goal.invariant-loop-k
invariant-loop-k l = PutTable 16 (hex_digit l.word) l.at l.initial.to l.to l.k
