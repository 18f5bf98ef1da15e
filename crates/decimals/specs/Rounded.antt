-- m is the whole number nearest to n / v, and `exact` tells whether it is equal to it. How the program gets there: from
-- halves and a rest, from a part and an even number more, from the same fraction with other numbers.
use Rattle.std.specs.Prelude.{ℕ, ◌+◌, ◌*◌, ◌/◌, ◌%◌, ◌^◌, ◌<◌, Bool, true, not, ◌&&◌, ◌||◌, cond, ◌≡◌, refl}
use Rattle.std.proofs.Math.Bool.{false}
use Rattle.std.proofs.Common.{sym, ap, ◌∙◌, div-add-mod', mod-lt, mul_assoc, mul_right_comm, add-mul, le_of_mul-le-mul_right, pow-add, pow_pos, shl_exact}
use native.Mathlib.Omega.{arith}
use Rattle.std.proofs.Math.Nat.{eq_of_mul-eq-mul_right}
use Rattle.std.proofs.Math.Dec.{eqb}
use borrow.Author.Tests.{eqb-true, eqb-false, eq-eqb, ne_eqb}
use Rattle.lists.specs.Test.{decide}
use Rattle.decimals.specs.Nearest.{Nearest, nearest-more}

pub record Rounded (m : ℕ) (exact : Bool) (n v : ℕ) : Type 0 where
  pub near : Nearest m n v
  pub marked : exact ≡ eqb (m * v) n

-- two tests of equal numbers that stand and fall together
pub same_test : (a b c d : ℕ) → (a ≡ b → c ≡ d) → (c ≡ d → a ≡ b) → eqb a b ≡ eqb c d
same_test a b c d f g = decide (eqb a b) (λ t. t ∙ sym (eq-eqb c d (f (eqb-true a b t)))) (λ t. t ∙ sym (ne_eqb c d (λ e. eqb-false a b t (g e))))

-- an even number more
pub rounded-more : {m n v : ℕ} {x : Bool} (e : ℕ) → e % 2 ≡ 0 → Rounded m x n v → Rounded (e + m) x (e * v + n) v
rounded-more {m} {n} {v} e h a =
    let d = add-mul e m v in
    record { near = nearest-more e h a.near; marked = a.marked ∙ same_test (m * v) n ((e + m) * v) (e * v + n) (λ t. omega arith) (λ t. omega arith) }

-- the same fraction, both numbers multiplied by t
pub rounded-less : {m n v t : ℕ} {x : Bool} → 0 < t → Rounded m x (n * t) (v * t) → Rounded m x n v
rounded-less {m} {n} {v} {t} P a =
    let d : m * (v * t) ≡ m * v * t = sym (mul_assoc m v t) in
    let u = a.near.under in
    let o = a.near.over in
    record {
      near = record {
        under = le_of_mul-le-mul_right {k = t} (omega arith) P;
        over = le_of_mul-le-mul_right {k = t} (omega arith) P;
        tie_under = λ e. let z = ap (λ (y : ℕ). y * t) e in a.near.tie_under (omega arith);
        tie_over = λ e. let z = ap (λ (y : ℕ). y * t) e in a.near.tie_over (omega arith);
      };
      marked = a.marked ∙ same_test (m * (v * t)) (n * t) (m * v) n (λ e. eq_of_mul-eq-mul_right t P (m * v) n (sym d ∙ e)) (λ e. d ∙ ap (λ (y : ℕ). y * t) e);
    }

-- less than a half
pub rounded-none : (n v : ℕ) → n * 2 < v → Rounded 0 (eqb n 0) n v
rounded-none n v l =
    record {
      near = record { under = omega arith; over = omega arith; tie_under = λ t. refl; tie_over = λ t. refl };
      marked = same_test n 0 (0 * v) n (λ t. omega arith) (λ t. omega arith);
    }

-- a whole number
pub rounded-whole : (m : ℕ) → Rounded m true m 1
rounded-whole m =
    record {
      near = record { under = omega arith; over = omega arith; tie_under = λ t. absurd (omega arith); tie_over = λ t. absurd (omega arith) };
      marked = sym (eq-eqb (m * 1) m (omega arith));
    }

-- ---- from h halves and a rest z
unfoldable pub rounded_halves : ℕ → Bool → ℕ
rounded_halves h rest = cond (eqb (h % 2) 1 && (rest || eqb (h / 2 % 2) 1)) (h / 2 + 1) (h / 2)

abbrev pub exact_halves : ℕ → Bool → Bool
exact_halves h rest = eqb (h % 2) 0 && not rest

module _ (h z u n : ℕ) (P : 0 < u) (e : h * u + z ≡ n) (l : z < u) where
  abbrev q : ℕ
  q = h / 2

  parts : h * u ≡ q * u * 2 + h % 2 * u
  parts =
      let s : h ≡ q * 2 + h % 2 = omega arith in
      ap (λ (x : ℕ). x * u) s ∙ (add-mul (q * 2) (h % 2) u ∙ ap (λ (x : ℕ). x + h % 2 * u) (mul_right_comm q 2 u))

  twice : (m : ℕ) → m * (u * 2) ≡ m * u * 2
  twice m = sym (mul_assoc m u 2)

  one_more : (q + 1) * u ≡ q * u + u
  one_more = omega (arith, add-mul q 1 u)

  odd-parts : h % 2 ≡ 1 → n ≡ q * u * 2 + u + z
  odd-parts o = let g : h % 2 * u ≡ u = rw o (omega arith) in omega (arith, parts)

  even-parts : h % 2 ≡ 0 → n ≡ q * u * 2 + z
  even-parts o = let g : h % 2 * u ≡ 0 = rw o (omega arith) in omega (arith, parts)

  -- up, from more than a half or from a half and an odd number
  up : h % 2 ≡ 1 → (z ≡ 0 → q % 2 ≡ 1) → Rounded (q + 1) false n (u * 2)
  up o k =
      let d = odd-parts o in
      let m = twice (q + 1) in
      record {
        near = record {
          under = omega (arith, one_more);
          over = omega (arith, one_more);
          tie_under = λ t. let y : z ≡ 0 = omega (arith, one_more) in omega (arith, k y);
          tie_over = λ t. absurd (omega (arith, one_more));
        };
        marked = sym (ne_eqb ((q + 1) * (u * 2)) n (λ t. omega (arith, one_more)));
      }

  -- down, from a half and an even number
  tie_down : h % 2 ≡ 1 → z ≡ 0 → q % 2 ≡ 0 → Rounded q false n (u * 2)
  tie_down o y k =
      let d = odd-parts o in
      let m = twice q in
      record {
        near = record { under = omega arith; over = omega arith; tie_under = λ t. k; tie_over = λ t. k };
        marked = sym (ne_eqb (q * (u * 2)) n (λ t. omega arith));
      }

  down : h % 2 ≡ 0 → Rounded q (eqb z 0) n (u * 2)
  down o =
      let d = even-parts o in
      let m = twice q in
      record {
        near = record { under = omega arith; over = omega arith; tie_under = λ t. absurd (omega arith); tie_over = λ t. absurd (omega arith) };
        marked = same_test z 0 (q * (u * 2)) n (λ t. omega arith) (λ t. omega arith);
      }

  not-not : (b : Bool) → not (not b) ≡ b
  not-not true = refl
  not-not false = refl

  pub halves-rounded : (rest : Bool) → rest ≡ not (eqb z 0) → Rounded (rounded_halves h rest) (exact_halves h rest) n (u * 2)
  unfolding rounded_halves
  halves-rounded rest f =
      decide (eqb (h % 2) 1)
      (λ t. let o = eqb-true (h % 2) 1 t in
      let o' : eqb (h % 2) 0 ≡ false = ne_eqb (h % 2) 0 (λ w. omega arith) in
      decide (eqb z 0)
      (λ y. decide (eqb (q % 2) 1)
      (λ x. rw (t, o', f, y, x) (up o (λ w. eqb-true (q % 2) 1 x)))
      (λ x. let x' = eqb-false (q % 2) 1 x in rw (t, o', f, y, x) (tie_down o (eqb-true z 0 y) (omega arith))))
      (λ y. rw (t, o', f, y) (up o (λ w. absurd (eqb-false z 0 y w)))))
      (λ t. let o'' = eqb-false (h % 2) 1 t in
      let o : h % 2 ≡ 0 = omega arith in
      rw (t, eq-eqb (h % 2) 0 o, f, not-not (eqb z 0)) (down o))

-- ---- f * 10 ^ 9 by 2 ^ (j + 32), in two words of 31 bits below and 53 above
abbrev pub low_of : ℕ → ℕ
low_of f = f % 2147483648 * 1000000000

abbrev pub high_of : ℕ → ℕ
high_of f = f / 2147483648 * 1000000000 + low_of f / 2147483648

abbrev pub rest_of : ℕ → ℕ → Bool
rest_of f u = not (eqb (high_of f % u) 0) || not (eqb (low_of f % 2147483648) 0)

either_rest : (a b z : ℕ) → z ≡ a * 2147483648 + b → (not (eqb a 0) || not (eqb b 0)) ≡ not (eqb z 0)
either_rest a b z e =
    decide (eqb a 0)
    (λ t. let a' = eqb-true a 0 t in decide (eqb b 0)
    (λ s. let b' = eqb-true b 0 s in rw (t, s, eq-eqb z 0 (omega arith)))
    (λ s. let b' = eqb-false b 0 s in rw (t, s, ne_eqb z 0 (λ w. omega arith))))
    (λ t. let a' = eqb-false a 0 t in rw (t, ne_eqb z 0 (λ w. omega arith)))

both_words : (f : ℕ) → high_of f * 2147483648 + low_of f % 2147483648 ≡ f * 1000000000
both_words f = omega arith

-- u = 2 ^ j
part-units : (f u : ℕ) → 0 < u
    → Rounded (rounded_halves (high_of f / u) (rest_of f u)) (exact_halves (high_of f / u) (rest_of f u)) (f * 1000000000) (u * 2147483648 * 2)
part-units f u P =
    let d = div-add-mod' (high_of f) u in
    let m = mod-lt (high_of f) P in
    let b = both_words f in
    let a : high_of f / u * (u * 2147483648) ≡ high_of f / u * u * 2147483648 = sym (mul_assoc (high_of f / u) u 2147483648) in
    halves-rounded (high_of f / u) (high_of f % u * 2147483648 + low_of f % 2147483648) (u * 2147483648) (f * 1000000000)
    (omega arith) (sum_is (high_of f) (high_of f / u * u) (high_of f % u) (low_of f % 2147483648) (high_of f / u * (u * 2147483648)) (f * 1000000000) d a b)
    (omega arith) (rest_of f u) (either_rest (high_of f % u) (low_of f % 2147483648) _ refl)
  where
    sum_is : (h q r b p n : ℕ) → q + r ≡ h → p ≡ q * 2147483648 → h * 2147483648 + b ≡ n → p + (r * 2147483648 + b) ≡ n
    sum_is h q r b p n d a e = omega arith

pub part-rounded : (f j : ℕ)
    → Rounded (rounded_halves (high_of f / 2 ^ j) (rest_of f (2 ^ j))) (exact_halves (high_of f / 2 ^ j) (rest_of f (2 ^ j))) (f * 1000000000) (2 ^ (j + 32))
part-rounded f j =
    let e : 2 ^ (j + 32) ≡ 2 ^ j * 2147483648 * 2 = pow-add 2 j 32 ∙ sym (mul_assoc (2 ^ j) 2147483648 2) in
    rw e (part-units f (2 ^ j) (pow_pos j))

-- ---- as the program has it
pub one_shl : (j : ℕ) → j < 64 → 1 * 2 ^ j % 2 ^ 64 ≡ 2 ^ j
one_shl j l = shl_exact {a = 1} 1 j 64 (omega arith) (omega arith) ∙ omega (arith, pow_pos j)

pub one_shl-pos : (j : ℕ) → j < 64 → 0 < 1 * 2 ^ j % 2 ^ 64
one_shl-pos j l = rw (one_shl j l) (pow_pos j)

pub part_by : (f j u size : ℕ) → u ≡ 2 ^ j → size ≡ rounded_halves (high_of f / u) (rest_of f u)
    → Rounded size (exact_halves (high_of f / u) (rest_of f u)) (f * 1000000000) (2 ^ (j + 32))
part_by f j u size e s = rw (s, e) (part-rounded f j)
