use mathlib.Core.Path.{ap}
use mathlib.Core.Bool.{Bool, ◌&&◌}
use lib.Ieee.{eq}
use Rattle.model.specs.Refusals.{zero_f}
use Rattle.model.specs.Readings.{first}
use Rattle.product.specs.Zero.{count-test}
use Rattle.product.proofs.kernel.is_zero.Goals as goal

pub returns : goal.returns
returns c = ap (λ (t : Bool). t && eq (first c.args.a.now) zero_f) (count-test c.args.n)
