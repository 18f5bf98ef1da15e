use mathlib.Core.Path.{ap}
use Prim.Native.Nat.{ℕ, ◌/◌, ◌%◌, ◌^◌}
use lib.Bits.{and_mask}
use Rattle.model_mending.specs.Lines.{line_at}
use Rattle.model_mending.specs.Mended.{inputs_in}
use Rattle.mending.proofs.reading.input_count.Goals as goal

pub returns : goal.returns
unfolding inputs_in line_at
returns c =
    simp (and_mask (c.old_word.result / 2 ^ 56) 8) (ap (λ (w : ℕ). w / 2 ^ 56 % 2 ^ 8) c.old_word.ensures)
