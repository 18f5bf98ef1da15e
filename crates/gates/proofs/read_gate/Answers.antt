use Rattle.gates.specs.Gate.{word-ruled}
use Rattle.gates.proofs.read_gate.Goals as goal

pub is_full-requires : goal.is_full-requires
is_full-requires c = word-ruled _ c.in_ok-h.ensures.none c.in_ok-h.ensures.holds
