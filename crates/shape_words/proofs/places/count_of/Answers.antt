use native.Mathlib.Omega.{arith}
use mathlib.Core.Path.{sym}
use Rattle.shape_words.specs.Lengths.{size2, size3, size4, count-is}
use Rattle.shape_words.proofs.places.count_of.Goals as goal

pub overflow_mul-result : goal.overflow_mul-result
overflow_mul-result c = omega (arith, size2 c.requires)

pub overflow_mul-result-2 : goal.overflow_mul-result-2
overflow_mul-result-2 c = omega (arith, size3 c.requires)

pub overflow_mul-result-3 : goal.overflow_mul-result-3
overflow_mul-result-3 c = omega (arith, size4 c.requires)

pub returns : goal.returns
returns c = sym (count-is _)
