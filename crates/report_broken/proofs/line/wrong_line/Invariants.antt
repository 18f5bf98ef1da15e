use Rattle.model_texts.specs.Sheet.{lined}
use Rattle.report_say.specs.First.{Looking}
use Rattle.report_broken.proofs.line.wrong_line.Given as goal

abbrev pub invariant-loop-k : goal.invariant-loop-k
invariant-loop-k l = Looking (lined l.text) l.n l.from l.k
