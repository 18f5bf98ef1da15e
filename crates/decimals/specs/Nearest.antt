-- The whole number nearest to a fraction n / v, a tie going to the even one: what it is, that there is just one, and
-- that the toolchain's `closest` is it.
use Prim.Native.Nat.{ℕ, ◌+◌, ◌*◌, ◌/◌, ◌%◌, ◌≤◌, ◌<◌, compare, Ordering}
use Rattle.std.specs.Prelude.{not, ◌≡◌, T, ltb, eqb}
use Rattle.std.proofs.Common.{arith, div-add-mod', mod-lt, mul-le-mul_right, add-mul, leb→le, eqb→eq, ltb-true, ltb-false, eqb-true}
use Rattle.std.proofs.Math.Nat.{eq_of_mul-eq-mul_right}
use Rattle.std.proofs.Math.Dec.{is_le, compare_is_eq, nleb→lt, eqb_refl}
use Rattle.std.specs.Float.Ieee.{nearest}
use Rattle.std.specs.Float.Ieee.Nearest.{closest}
use Rattle.std.proofs.lemmas.Bool.{eqb-false}
use Rattle.lists.specs.Test.{decide}

-- |m - n / v| ≤ 1 / 2, multiplied by 2 * v; and where it is 1 / 2, m is even
pub record Nearest (m n v : ℕ) : Type 0 where
  pub under : m * v * 2 ≤ n * 2 + v
  pub over : n * 2 ≤ m * v * 2 + v
  pub tie_under : m * v * 2 ≡ n * 2 + v → m % 2 ≡ 0
  pub tie_over : n * 2 ≡ m * v * 2 + v → m % 2 ≡ 0

-- there is just one
never_less : {m k n v : ℕ} → 0 < v → Nearest m n v → Nearest k n v → m < k → ⊥
never_less {m} {k} {n} {v} P a b l =
    let x : (m + 1) * v ≤ k * v = mul-le-mul_right v (omega arith) in
    let p : k * v * 2 ≡ n * 2 + v = omega (arith, a.over, b.under) in
    let q : n * 2 ≡ m * v * 2 + v = omega (arith, a.over, b.under) in
    let e : k * v ≡ (m + 1) * v = omega arith in
    let f : k ≡ m + 1 = eq_of_mul-eq-mul_right v P k (m + 1) e in
    omega (arith, f, a.tie_over q, b.tie_under p)

pub only_one : {m k n v : ℕ} → 0 < v → Nearest m n v → Nearest k n v → m ≡ k
only_one {m} {k} P a b =
    decide (ltb m k)
    (λ t. absurd (never_less P a b (ltb-true m k t)))
    (λ t. decide (ltb k m) (λ s. absurd (never_less P b a (ltb-true k m s))) (λ s. omega (arith, ltb-false m k t, ltb-false k m s)))

-- at most e, where the fraction is
pub nearest-most : {m n v e : ℕ} → 0 < v → n ≤ e * v → Nearest m n v → m ≤ e
nearest-most {m} {n} {v} {e} P l a =
    decide (ltb e m)
    (λ t. absurd
    (let k = ltb-true e m t in
    let y : (e + 1) * v ≤ m * v = mul-le-mul_right v (omega arith) in
    omega (arith, a.under)))
    (λ t. ltb-false e m t)

-- ---- from a quotient q, and how twice the remainder r compares with v
abbrev Said : Ordering → ℕ → ℕ → Type 0
Said Ordering.lt a b = a < b
Said Ordering.eq a b = a ≡ b
Said Ordering.gt a b = b < a

said : (a b : ℕ) → Said (compare a b) a b
said a b = go (compare a b) (leb→le a b) (nleb→lt a b) (eqb→eq a b) (λ e. rw e (eqb_refl b))
  where
    go : (o : Ordering) → (T (is_le o) → a ≤ b) → (T (not (is_le o)) → b < a) → (T (compare_is_eq o) → a ≡ b) → (a ≡ b → T (compare_is_eq o)) → Said o a b
    go Ordering.lt h k e n = decide (eqb a b) (λ t. absurd (n (eqb-true a b t))) (λ t. let d = eqb-false a b t in let l = h tt in omega arith)
    go Ordering.eq h k e n = e tt
    go Ordering.gt h k e n = k tt

-- an even m and an odd one, times v
tie_up : (q v : ℕ) → (q + q % 2) * v ≡ q * v + q % 2 * v
tie_up q v = add-mul q (q % 2) v

by_remainder : (q r n v : ℕ) (o : Ordering) → q * v + r ≡ n → r < v → Said o (r * 2) v → Nearest (nearest q o) n v
by_remainder q r n v Ordering.lt e l s =
    record { under = omega arith; over = omega arith; tie_under = λ t. absurd (omega arith); tie_over = λ t. absurd (omega arith) }
by_remainder q r n v Ordering.gt e l s =
    record { under = omega arith; over = omega arith; tie_under = λ t. absurd (omega arith); tie_over = λ t. absurd (omega arith) }
by_remainder q r n v Ordering.eq e l s =
    let a = mul-le-mul_right v (let p : q % 2 ≤ 1 = omega arith in p) in
    let b = tie_up q v in
    record { under = omega arith; over = omega arith; tie_under = λ t. omega arith; tie_over = λ t. omega arith }

pub closest-nearest : (n v : ℕ) → 0 < v → Nearest (closest n v) n v
closest-nearest n v P = by_remainder (n / v) (n % v) n v (compare (n % v * 2) v) (div-add-mod' n v) (mod-lt n P) (said (n % v * 2) v)

pub is-closest : {m n v : ℕ} → 0 < v → Nearest m n v → m ≡ closest n v
is-closest {m} {n} {v} P a = only_one P a (closest-nearest n v P)

-- ---- an even number more
pub nearest-more : {m n v : ℕ} (e : ℕ) → e % 2 ≡ 0 → Nearest m n v → Nearest (e + m) (e * v + n) v
nearest-more {m} {n} {v} e h a =
    let d = add-mul e m v in
    record {
      under = omega (arith, d, a.under);
      over = omega (arith, d, a.over);
      tie_under = λ t. let z = a.tie_under (omega (arith, d)) in omega arith;
      tie_over = λ t. let z = a.tie_over (omega (arith, d)) in omega arith;
    }
