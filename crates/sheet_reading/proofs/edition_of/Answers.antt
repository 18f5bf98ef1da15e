use Prim.Native.Nat.{◌/◌, ◌^◌, ℕ, ◌%◌}
use mathlib.Core.Path.{ap}
use lib.Bits.{and_mask}
use Rattle.model_texts.specs.Sheet.{sheet_edition}
use Rattle.sheet_reading.proofs.edition_of.Goals as goal

pub returns : goal.returns
unfolding sheet_edition
returns c = simp (and_mask (c.word_at.result / 2 ^ 44) 4) (ap (λ (w : ℕ). w / 2 ^ 44 % 2 ^ 4) c.word_at.ensures)
