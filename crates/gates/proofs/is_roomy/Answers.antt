use native.Mathlib.Omega.{arith}
use Rattle.shape_words.specs.Lengths.{count_most, lengths_of_lem}
use Rattle.gates.proofs.is_roomy.Goals as goal

pub overflow_mul-result : goal.overflow_mul-result
overflow_mul-result c = omega (arith, c.stored_of.ensures, count_most (lengths_of_lem c.requires))

pub returns : goal.returns
returns c = simp c.stored_of.ensures
