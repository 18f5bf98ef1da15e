use Rattle.lists.specs.Table.{Filled}
use Rattle.npy_grammar.specs.Text.{eight}
use Rattle.npy_files.specs.Values.{value_at}
use Rattle.npy_bytes.proofs.take_words.Given as goal

abbrev pub invariant-loop-k : goal.invariant-loop-k
invariant-loop-k l = Filled l.k (value_at eight l.file l.at) l.initial.out l.out
