use Prim.Native.Nat.{◌*◌}
use lib.ListN.{take}
use Rattle.model_texts.specs.Hex.{word_at}
use Rattle.lists.specs.Table.{Filled}
use Rattle.settings_text.proofs.file.read_store.Given as goal

abbrev pub invariant-loop-k : goal.invariant-loop-k
invariant-loop-k l = Filled l.k (λ i. word_at l.text (17 * i)) (take 544 l.fn.words) l.word-items
