use Rattle.model_texts.specs.Hex.{hex_line}
use Rattle.model_settings.specs.Words.{word}
use Rattle.report_lines.specs.Puts.{Putting}
use Rattle.settings_text.proofs.file.put_store.Given as goal

abbrev pub invariant-loop-k : goal.invariant-loop-k
invariant-loop-k l = Putting (λ i. hex_line (word l.words i)) 544 l.at l.initial.to l.to l.next l.k
