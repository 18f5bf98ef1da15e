-- A fraction n / v in billionths, as a whole number and less than 10 ^ 9 of them.
use Rattle.std.specs.Prelude.{ℕ, ◌+◌, ◌-◌, ◌*◌, ◌/◌, ◌%◌, ◌^◌, ◌≤◌, ◌<◌, Bool, ◌≡◌, eqb}
use Rattle.std.proofs.Common.{sym, ap, ◌∙◌, subst, arith, div-add-mod', mod-lt, mul_right_comm, div-le_self, pow-add, pow_pos, pow_mono, shl_exact, shl_lt}
use Rattle.std.proofs.Math.Nat.{mod-le}
use Rattle.decimals.specs.Nearest.{nearest-most}
use Rattle.decimals.specs.Rounded.{Rounded, same_test, rounded-more, rounded-less, rounded-none}

pub record IsBillionths (n v whole part : ℕ) (exact : Bool) : Type 0 where
  pub small : part < 1000000000
  pub is : Rounded (whole * 1000000000 + part) exact n v

-- what a part that was rounded up to a whole becomes
pub record Carried (w size : ℕ) (x : Bool) (whole part : ℕ) (y : Bool) : Type 0 where
  pub sum : whole * 1000000000 + part ≡ w * 1000000000 + size
  pub small : part < 1000000000
  pub same : y ≡ x

-- far below half a billionth
pub billionths-none : (b k : ℕ) → b < 9007199254740992 → 95 < k → IsBillionths (b * 1000000000) (2 ^ k) 0 0 (eqb b 0)
billionths-none b k l h =
    let p : 2 ^ 96 ≤ 2 ^ k = pow_mono h in
    record {
      small = omega arith;
      is = rw (same_test b 0 (b * 1000000000) 0 (λ e. omega arith) (λ e. omega arith)) (rounded-none (b * 1000000000) (2 ^ k) (omega arith));
    }

-- the part f / v of a number b / v = w + f / v
module _ (f v w b : ℕ) {size : ℕ} {x : Bool} (r : Rounded size x (f * 1000000000) v) where
  pub part-most : f < v → size ≤ 1000000000
  part-most l = nearest-most {e = 1000000000} (omega arith) (omega arith) r.near

  whole-more : w * v + f ≡ b → w * 1000000000 * v + f * 1000000000 ≡ b * 1000000000
  whole-more e = omega (arith, mul_right_comm w 1000000000 v, ap (λ (z : ℕ). z * 1000000000) e)

  pub billionths-carried : {whole part : ℕ} {y : Bool} → w * v + f ≡ b → Carried w size x whole part y → IsBillionths (b * 1000000000) v whole part y
  billionths-carried e c = record { small = c.small; is = rw (c.sum, c.same, ← whole-more e) (rounded-more (w * 1000000000) (omega arith) r) }

-- ---- where the point stands behind k of the digits of b
module _ (b k : ℕ) (lb : b < 9007199254740992) where
  -- before all of them
  module _ (h : 52 < k) where
    all-behind : b < 2 ^ k
    all-behind = let p : 2 ^ 53 ≤ 2 ^ k = pow_mono h in omega arith

    module _ {size : ℕ} {x : Bool} (r : Rounded size x (b * 1000000000) (2 ^ (k - 32 + 32))) where
      all-part : Rounded size x (b * 1000000000) (2 ^ k)
      all-part = let e : k - 32 + 32 ≡ k = omega arith in rw e at r

      pub all_most : size ≤ 1000000000
      all_most = part-most b (2 ^ k) 0 b all-part all-behind

      pub all-billionths : {whole part : ℕ} {y : Bool} → Carried 0 size x whole part y → IsBillionths (b * 1000000000) (2 ^ k) whole part y
      all-billionths c = billionths-carried b (2 ^ k) 0 b all-part (omega arith) c

  -- among them
  module _ (u : ℕ) (e : u ≡ 2 ^ k) where
    pub unit-pos : 0 < u
    unit-pos = rw e (pow_pos k)

    pub part-less : b % u < 2 ^ k
    part-less = rw (← e) (mod-lt b unit-pos)

    pub part-fits : b % u < 9007199254740992
    part-fits = let d = mod-le b u in omega arith

    pub whole-fits : b / u < 9007199254740992
    whole-fits = let d = div-le_self b u in omega arith

    both : b / u * 2 ^ k + b % u ≡ b
    both = rw (← e) (div-add-mod' b u)

    module _ {size : ℕ} {x : Bool} (r : Rounded size x (b % u * 1000000000) (2 ^ k)) where
      pub some-most : size ≤ 1000000000
      some-most = part-most (b % u) (2 ^ k) (b / u) b r part-less

      pub some-billionths : {whole part : ℕ} {y : Bool} → Carried (b / u) size x whole part y → IsBillionths (b * 1000000000) (2 ^ k) whole part y
      some-billionths c = billionths-carried (b % u) (2 ^ k) (b / u) b r both c

    -- with 32 or more behind
    pub long-part : {size : ℕ} {x : Bool} → 31 < k → Rounded size x (b % u * 1000000000) (2 ^ (k - 32 + 32)) → Rounded size x (b % u * 1000000000) (2 ^ k)
    long-part h r = let d : k - 32 + 32 ≡ k = omega arith in rw d at r

    -- with fewer: the part moved up to 32
    module _ (h : k ≤ 31) where
      abbrev pub moved : ℕ
      moved = b % u * 2 ^ (32 - k) % 2 ^ 64

      moved-is : moved ≡ b % u * 2 ^ (32 - k)
      moved-is = shl_exact {a = b % u} k (32 - k) 64 part-less (omega arith)

      pub moved-fits : moved < 9007199254740992
      moved-fits =
          let d : k + (32 - k) ≡ 32 = omega arith in
          let l : b % u * 2 ^ (32 - k) < 2 ^ 32 = rw d at (shl_lt {a = b % u} k (32 - k) part-less) in
          omega (arith, moved-is)

      pub moved-part : {size : ℕ} {x : Bool} → Rounded size x (moved * 1000000000) (2 ^ (0 + 32)) → Rounded size x (b % u * 1000000000) (2 ^ k)
      moved-part {size} {x} r =
          let d : k + (32 - k) ≡ 32 = omega arith in
          let p : 2 ^ (0 + 32) ≡ 2 ^ k * 2 ^ (32 - k) = ap (λ (z : ℕ). 2 ^ z) (sym d) ∙ pow-add 2 k (32 - k) in
          let n : moved * 1000000000 ≡ b % u * 1000000000 * 2 ^ (32 - k) =
          ap (λ (z : ℕ). z * 1000000000) moved-is ∙ mul_right_comm (b % u) (2 ^ (32 - k)) 1000000000 in
          let q : Rounded size x (b % u * 1000000000 * 2 ^ (32 - k)) (2 ^ (0 + 32)) = subst (λ (z : ℕ). Rounded size x z (2 ^ (0 + 32))) n r in
          rounded-less {t = 2 ^ (32 - k)} (pow_pos (32 - k)) (subst (λ (z : ℕ). Rounded size x (b % u * 1000000000 * 2 ^ (32 - k)) z) p q)
