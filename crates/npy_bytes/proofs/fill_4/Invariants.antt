use Rattle.lists.specs.Table.{Filled}
use Rattle.npy_grammar.specs.Text.{four}
use Rattle.npy_files.specs.Values.{value_at}
use Rattle.npy_bytes.proofs.fill_4.Given as goal

abbrev pub invariant-loop-k : goal.invariant-loop-k
invariant-loop-k l = Filled l.k (value_at four l.file l.at) l.initial.out l.out
