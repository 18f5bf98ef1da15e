use Rattle.gates.specs.Open.{left-ruled, right-ruled, both-told}
use Rattle.gates.proofs.open_pair.Goals as goal

pub announced_of-told-requires : goal.announced_of-told-requires
announced_of-told-requires c = record {
  fact_1 = left-ruled _ _ _ _ c.in_ok-a.ensures.none c.in_ok-a.ensures.holds;
  fact_2 = right-ruled _ _ _ _ c.in_ok-a.ensures.none c.in_ok-a.ensures.holds;
}

pub room_gate-requires : goal.room_gate-requires
room_gate-requires c = both-told _ _ _ _ c.in_ok-a.ensures.none c.in_ok-a.ensures.holds c.args.f c.announced_of-told.ensures

pub telling-requires : goal.telling-requires
telling-requires c =
    record {
      left = left-ruled _ _ _ _ c.in_ok-a.ensures.none c.in_ok-a.ensures.holds;
      right = right-ruled _ _ _ _ c.in_ok-a.ensures.none c.in_ok-a.ensures.holds;
      announced = both-told _ _ _ _ c.in_ok-a.ensures.none c.in_ok-a.ensures.holds c.args.f c.announced_of-told.ensures;
    }
