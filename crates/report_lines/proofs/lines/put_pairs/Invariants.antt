use Rattle.report_lines.specs.Puts.{Putting}
use Rattle.model_texts.specs.Report.{pair_text}
use Rattle.report_lines.proofs.lines.put_pairs.Given as goal

abbrev pub invariant-loop-v : goal.invariant-loop-v
invariant-loop-v l = Putting (pair_text l.h) 4 l.at l.initial.to l.to l.next l.v
