use mathlib.Core.Path.{refl}
use Rattle.product_kept.specs.Kept.{keeps_length}
use Rattle.product_kept.proofs.keeps_length.Goals as goal

pub returns : goal.returns
unfolding keeps_length
returns c = refl
