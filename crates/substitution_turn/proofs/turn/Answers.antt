use native.Mathlib.Omega.{arith}
use mathlib.Core.Path.{refl, ap}
use Prim.Native.Nat.{ℕ, ◌+◌}
use Rattle.substitution_turn.specs.Turn.{turn-lens, turn_small, turn-room, turn_adding, turn-turned}
use Rattle.substitution_turn.proofs.turn.Goals as goal

pub count_of-requires : goal.count_of-requires
count_of-requires c = (turn-lens c.requires).0

pub overflow_add-end : goal.overflow_add-end
overflow_add-end c =
    let s = turn_small c.requires in omega (arith, c.count_of.ensures, c.requires.small)

pub count_of-eb-requires : goal.count_of-eb-requires
count_of-eb-requires c = (turn-lens c.requires).1

pub overflow_mul-n : goal.overflow_mul-n
overflow_mul-n c = omega (arith, c.requires.small)

pub times_put-k-requires : goal.times_put-k-requires
times_put-k-requires c =
    turn-room c.requires c.args.work.now refl
    (ap (λ (x : ℕ). c.args.n + x) c.count_of.ensures)
    c.count_of-eb.ensures

pub plus_row-requires : goal.plus_row-requires
plus_row-requires c =
    turn_adding c.requires c.args.work.now refl (ap (λ (x : ℕ). c.args.n + x) c.count_of.ensures)
    c.count_of-eb.ensures c.times_put-k.ensures c.times_put-k.auto.out
    c.times_put-k.auto.work

pub returns : goal.returns
returns c =
    turn-turned c.requires c.args.work.now refl (ap (λ (x : ℕ). c.args.n + x) c.count_of.ensures)
    c.count_of-eb.ensures c.times_put-k.ensures c.plus_row.ensures
