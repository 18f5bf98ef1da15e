use native.Mathlib.Omega.{arith}
use native.Mathlib.Nat.{mul-le-mul}
use Prim.Native.Nat.{◌-◌, ◌≤◌, ◌^◌}
use Rattle.shape.proofs.announce.power_length.Goals as goal

pub overflow_mul-e : goal.overflow_mul-e
overflow_mul-e c = let e : (c).args.e ≤ 2 ^ 32 = omega arith in let a : (c).args.a - 1 ≤ 63 = omega arith in omega (arith, mul-le-mul e a)

pub overflow_add-e : goal.overflow_add-e
overflow_add-e c = let e : (c).args.e ≤ 2 ^ 32 = omega arith in let a : (c).args.a - 1 ≤ 63 = omega arith in omega (arith, mul-le-mul e a)
