use Rattle.lists.specs.Every.{Passing}
use Rattle.model_texts.specs.Sheet.{lined}
use Rattle.sheet_reading.proofs.all_lined.Given as goal

abbrev pub invariant-loop-k : goal.invariant-loop-k
invariant-loop-k l = Passing (lined l.text) l.n l.from l.k
