use Rattle.lists.specs.Every.{Passing}
use Rattle.npy_answers.specs.Answer.{is_numeral}
use Rattle.npy_answers.proofs.all_numerals.Given as goal

abbrev pub invariant-loop-k : goal.invariant-loop-k
invariant-loop-k l = Passing (is_numeral l.text) l.n 8 l.k
