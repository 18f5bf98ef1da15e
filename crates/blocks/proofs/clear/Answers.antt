use Rattle.std.proofs.Common.{arith}
use Rattle.blocks.specs.Line.{same-table}
use Rattle.blocks.proofs.Cleared.{rest_cleared}
use Rattle.blocks.proofs.clear.Goals as goal

-- It also proves a fill from the place 0 on (`rest_cleared`): so the must-fail edit `short_clear`, which fills from the
-- place 1 on, is refused for what it leaves there and not for its form.
pub returns : goal.returns
returns c = let filled = c.fill.ensures.after (λ y e. e) in grind (arith, filled, same-table, rest_cleared)
