use Prim.Native.Nat.{◌/◌, ◌^◌, ℕ, ◌%◌}
use mathlib.Core.Path.{ap}
use lib.Bits.{and_mask}
use Rattle.model_texts.specs.Sheet.{input_count}
use Rattle.sheet_reading.proofs.input_count.Goals as goal

pub returns : goal.returns
unfolding input_count
returns c = simp (and_mask (c.word_at.result / 2 ^ 56) 8) (ap (λ (w : ℕ). w / 2 ^ 56 % 2 ^ 8) c.word_at.ensures)
