use Rattle.std.proofs.Common.{◌+◌, ◌*◌}
use Rattle.product.proofs.kernel.+linear_product_product.Given as goal

-- The stage falls at the product by a constant.
abbrev pub decreases-linear_product : goal.decreases-linear_product
decreases-linear_product l = 2 * l.stage

abbrev pub decreases-product : goal.decreases-product
decreases-product l = 2 * l.stage + 1
