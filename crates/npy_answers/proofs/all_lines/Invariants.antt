use Prim.Native.Nat.{◌+◌, ◌*◌}
use Rattle.lists.specs.Every.{Passing}
use Rattle.model_texts.specs.Hex.{is_line}
use Rattle.npy_answers.proofs.all_lines.Given as goal

abbrev pub invariant-loop-k : goal.invariant-loop-k
invariant-loop-k l = Passing (λ i. is_line l.text (l.start + 17 * i)) l.n 1 l.k
