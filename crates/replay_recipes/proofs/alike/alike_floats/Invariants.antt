use mathlib.Core.Path.{◌≡◌}
use Rattle.replay_recipes.specs.Alike.{AlikeTo, bits_in}
use Rattle.replay_recipes.proofs.alike.alike_floats.Given as goal

abbrev pub invariant-loop-k : goal.invariant-loop-k
invariant-loop-k l = AlikeTo (bits_in l.xs) l.at l.k × (l.first ≡ bits_in l.xs l.at)
