use Prim.Native.Nat.{◌≤◌}
use Rattle.lists.specs.Every.{Passing}
use lib.ListN.{length}
use Rattle.model_settings.specs.Words.{good_department}
use Rattle.settings_store.proofs.test.is_valid.Given as goal

abbrev pub invariant-loop-d : goal.invariant-loop-d
invariant-loop-d l = (544 ≤ length l.words) × Passing (good_department l.words) 32 0 l.d
