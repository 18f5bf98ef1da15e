use Rattle.lists.specs.Every.{Passing}
use Rattle.model_texts.specs.Hex.{digit_at}
use Rattle.model_mending.specs.Lines.{low}
use Rattle.mending.proofs.lines.is_old_line.Given as goal

abbrev pub invariant-loop-k : goal.invariant-loop-k
invariant-loop-k l = Passing (digit_at (low l.text)) 16 l.at l.k
