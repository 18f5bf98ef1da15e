use Rattle.sheet_text.specs.Lines.{Taking}
use Rattle.sheet_text.proofs.line.word_at.Given as goal

abbrev pub invariant-loop-k : goal.invariant-loop-k
invariant-loop-k l = Taking l.text l.at l.k l.word
