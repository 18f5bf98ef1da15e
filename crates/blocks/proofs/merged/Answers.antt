use native.Mathlib.Omega.{arith}
use mathlib.Core.Path.{refl}
use Rattle.blocks.specs.Merge.{merge, merge_low}
use Rattle.blocks.proofs.merged.Goals as goal

pub overflow_mul-result : goal.overflow_mul-result
overflow_mul-result c = omega (arith, merge_low c.requires)

pub returns : goal.returns
unfolding merge
returns c = refl
