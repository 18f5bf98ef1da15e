use Rattle.shape_words.specs.Lengths.{lengths-most}
use native.Mathlib.Omega.{arith}
use Rattle.model.specs.Product.{grown}
use Rattle.product.proofs.kernel.grown_to.Goals as goal

pub overflow_add-n : goal.overflow_add-n
overflow_add-n c = omega (arith, lengths-most c.requires.fact_2 c.args.v c.requires.fact_1)

pub returns : goal.returns
unfolding grown
returns c = rw c.least.ensures
