use lib.ListN.{take}
use Rattle.lists.specs.Table.{Filled}
use Rattle.model_settings.specs.Words.{fresh_word}
use Rattle.settings_store.proofs.fresh.Given as goal

abbrev pub invariant-loop-i : goal.invariant-loop-i
invariant-loop-i l = Filled l.i fresh_word (take 544 l.fn.words) l.word-items
