use Prim.Native.Nat.{◌*◌}
use mathlib.Core.Path.{◌≡◌}
use lib.ListN.{length}
use Rattle.model_texts.specs.Hex.{is_line}
use Rattle.lists.specs.Every.{Passing}
use Rattle.settings_text.proofs.file.is_store.Given as goal

abbrev pub invariant-loop-k : goal.invariant-loop-k
invariant-loop-k l = (length l.text ≡ 9248) × Passing (λ i. is_line l.text (17 * i)) 544 0 l.k
