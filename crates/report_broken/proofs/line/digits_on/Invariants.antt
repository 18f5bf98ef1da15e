use Prim.Native.Nat.{◌+◌, ◌*◌}
use Rattle.model_texts.specs.Hex.{digit_at}
use Rattle.report_say.specs.First.{Looking}
use Rattle.report_broken.proofs.line.digits_on.Given as goal

abbrev pub invariant-loop-j : goal.invariant-loop-j
invariant-loop-j l = Looking (λ i. digit_at l.text (17 * l.k + i)) 16 0 l.j
