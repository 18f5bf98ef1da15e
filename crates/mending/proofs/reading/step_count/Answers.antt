use mathlib.Core.Path.{ap}
use Prim.Native.Nat.{ℕ, ◌/◌, ◌%◌, ◌^◌}
use lib.Bits.{and_mask}
use Rattle.model_mending.specs.Lines.{line_at}
use Rattle.model_mending.specs.Mended.{steps_in}
use Rattle.mending.proofs.reading.step_count.Goals as goal

pub returns : goal.returns
unfolding steps_in line_at
returns c =
    simp (and_mask (c.old_word.result / 2 ^ 48) 8) (ap (λ (w : ℕ). w / 2 ^ 48 % 2 ^ 8) c.old_word.ensures)
