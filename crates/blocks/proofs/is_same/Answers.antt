use Rattle.std.proofs.Common.{◌∙◌, arith}
use Rattle.blocks.specs.Same.{same-pointwise}
use Rattle.blocks.proofs.is_same.Goals as goal

pub returns : goal.returns
returns c = c.eq.ensures ∙ same-pointwise _ _ (omega (arith, c.well_formed)) (omega (arith, c.well_formed))
