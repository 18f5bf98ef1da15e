use mathlib.Core.Path.{sym, ap}
use Rattle.series_gathering.specs.Reach.{left_of}
use mathlib.Core.Bool.{Bool}
use Rattle.series_gathering.proofs.left_row.Goals as goal

pub returns-then-back : goal.returns-then-back
returns-then-back c = ap (λ (b : Bool). left_of b c.args.k c.args.j) (sym c.if-back.true)
