-- Sizes (document 02, W11): x, y and z are the sums of absolute values, each taken as at least one, and their product
-- is at most 2 ^ 51. Then every sum and product on the way is at most 2 ^ 53.
use Rattle.std.specs.Prelude.{ℕ, ◌*◌, ◌^◌, ◌≤◌}
use Rattle.std.proofs.Common.{ap, le_trans, le_refl, mul-le-mul, mul-one, one-mul, mul_comm, mul_assoc, arith}

-- x, y, z of 1 at least
pub record Sizes (x y z : ℕ) : Type 0 where
  pub x1 : 1 ≤ x
  pub y1 : 1 ≤ y
  pub z1 : 1 ≤ z
  pub most : x * y * z ≤ 2 ^ 51

module _ {x y z : ℕ} (s : Sizes x y z) where
  pub xy : x * y ≤ 2 ^ 51
  xy = le_trans (rw (mul-one (x * y)) at (mul-le-mul (le_refl (x * y)) s.z1)) s.most

  pub left-x : x ≤ 2 ^ 51
  left-x = le_trans (rw (mul-one x) at (mul-le-mul (le_refl x) s.y1)) xy

  pub left-y : y ≤ 2 ^ 51
  left-y = le_trans (rw (one-mul y) at (mul-le-mul s.x1 (le_refl y))) xy

  pub last_z : z ≤ 2 ^ 51
  last_z =
      let o : 1 ≤ x * y = mul-le-mul s.x1 s.y1 in
      le_trans (rw (one-mul z) at (mul-le-mul o (le_refl z))) s.most

  pub yz : y * z ≤ 2 ^ 51
  yz =
      let o : 1 * (y * z) ≤ x * (y * z) = mul-le-mul s.x1 (le_refl (y * z)) in
      omega (arith, s.most, mul_assoc x y z, one-mul (y * z))

  pub xz : x * z ≤ 2 ^ 51
  xz =
      let o : x * z * 1 ≤ x * z * y = mul-le-mul (le_refl (x * z)) s.y1 in
      omega (arith, s.most, mul-one (x * z), mul_assoc x z y, mul_assoc x y z, ap (λ (n : ℕ). x * n) (mul_comm z y))
