use mathlib.Core.Path.{sym, ap}
use mathlib.Core.Bool.{Bool, false, ◌&&◌}
use lib.IntN.{pos}
use lib.Ieee.{fin, le, of_bits, neg}
use Rattle.model_exponential.specs.Constant.{in_range}
use Rattle.exponential_head.proofs.in_range.Goals as goal

pub returns-then-x : goal.returns-then-x
unfolding in_range of_bits neg
returns-then-x c = sym (ap (λ (b : Bool). b && le c.args.x (fin false 1 (pos 3))) c.if-x.true)

pub returns-else-x : goal.returns-else-x
unfolding in_range of_bits neg
returns-else-x c = sym (ap (λ (b : Bool). b && le c.args.x (fin false 1 (pos 3))) c.if-x.false)
