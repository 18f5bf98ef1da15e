use native.Mathlib.Omega.{arith}
use native.Mathlib.Nat.{mul-one}
use Rattle.shape_words.specs.Lengths.{size2, size3}
use Rattle.model.specs.Places.{strides}
use Rattle.model.specs.Header.{span}
use Rattle.shape_words.proofs.places.strides_of.Goals as goal

pub overflow_mul-s : goal.overflow_mul-s
overflow_mul-s c = omega (arith, size2 c.requires)

pub overflow_mul-result : goal.overflow_mul-result
overflow_mul-result c = omega (arith, size3 c.requires)

pub returns : goal.returns
unfolding strides span
returns c = simp mul-one
