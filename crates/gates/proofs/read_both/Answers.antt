use Rattle.gates.specs.Gate.{word-ruled}
use Rattle.gates.proofs.read_both.Goals as goal

pub is_full-requires : goal.is_full-requires
is_full-requires c = word-ruled _ c.in_ok-a.ensures.none c.in_ok-a.ensures.holds

pub is_full-requires-2 : goal.is_full-requires-2
is_full-requires-2 c = word-ruled _ c.in_ok-b.ensures.none c.in_ok-b.ensures.holds
