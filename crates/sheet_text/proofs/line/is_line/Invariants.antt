use Rattle.lists.specs.Every.{Passing}
use Rattle.model_texts.specs.Hex.{digit_at}
use Rattle.sheet_text.proofs.line.is_line.Given as goal

abbrev pub invariant-loop-k : goal.invariant-loop-k
invariant-loop-k l = Passing (digit_at l.text) 16 l.at l.k
