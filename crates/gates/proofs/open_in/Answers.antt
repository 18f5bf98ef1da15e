use Rattle.shape_words.specs.Rules.{none-regular}
use Rattle.gates.specs.Open.{read_ruled, told_ruled}
use Rattle.gates.proofs.open_in.Goals as goal

pub announced_of-told-requires : goal.announced_of-told-requires
announced_of-told-requires c =
    record {
      fact_1 = read_ruled c.args.f _ _ c.in_ok-a.ensures.none c.in_ok-a.ensures.holds;
      fact_2 = rw c.none-none.ensures none-regular.rules;
    }

pub below_gate-requires : goal.below_gate-requires
below_gate-requires c =
    record {
      operand = read_ruled c.args.f _ _ c.in_ok-a.ensures.none c.in_ok-a.ensures.holds;
      announced = told_ruled c.args.f _ _ c.in_ok-a.ensures.none c.in_ok-a.ensures.holds c.none-none.ensures c.announced_of-told.ensures;
    }

pub telling-requires : goal.telling-requires
telling-requires c =
    record {
      left = read_ruled c.args.f _ _ c.in_ok-a.ensures.none c.in_ok-a.ensures.holds;
      right = rw c.none-none.ensures none-regular.rules;
      announced = told_ruled c.args.f _ _ c.in_ok-a.ensures.none c.in_ok-a.ensures.holds c.none-none.ensures c.announced_of-told.ensures;
    }
