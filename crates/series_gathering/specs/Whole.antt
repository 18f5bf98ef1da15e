-- What a series of a whole block asks: lx and r the lengths of the operand and of the result. The m.. are the lengths
-- of buffers.
use Rattle.std.specs.Prelude.{ℕ, ◌*◌, ◌≤◌, List, ◌≡◌}
use Rattle.model.specs.Header.{count}
use Rattle.shape_words.specs.Lengths.{Lengths}
use Rattle.blocks.specs.Rows.{Inner}

pub record Whole (lx r : List ℕ) (n mx mo mw : ℕ) : Type 0 where
  pub left : Lengths lx
  pub result : Lengths r
  pub inner : Inner r lx
  pub all : n ≡ count r
  pub less : count lx ≤ n
  pub operand : mx ≡ count lx
  pub out : mo ≡ n
  pub work : 8 * n ≤ mw
