use Rattle.sheet_text.specs.Lines.{Taking}
use Rattle.model_mending.specs.Lines.{low}
use Rattle.mending.proofs.lines.old_word.Given as goal

abbrev pub invariant-loop-k : goal.invariant-loop-k
invariant-loop-k l = Taking (low l.text) l.at l.k l.word
