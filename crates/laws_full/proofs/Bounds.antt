-- What rests on laws of specs/ (Bounds).
use Rattle.std.specs.Prelude.{ℕ, zero, suc, ◌+◌, ◌-◌, ◌*◌, ◌≤◌, ◌<◌, ◌≡◌}
use Rattle.std.proofs.Common.{suc-mul, mul-le-mul_right}
use native.Mathlib.Omega.{arith}
use Rattle.std.proofs.Math.Nat.{zero-mul}
use Rattle.model_textbook.specs.Sum.{add_z}
use Rattle.model_textbook.specs.Textbook.{Series, times, power, coefficient_of}
use Rattle.model_textbook.specs.Textbook.{substitute}
use Rattle.laws_whole.specs.SumLaws.{sum_zeros}
use Rattle.laws_full.specs.Bounds.{Bounds, bounds-coefficient, bounds-more, bounds-one, bounds-times, without}

pub bounds-power : {n : ℕ → ℕ} {A : Series} → Bounds n A → (e : ℕ) → Bounds (λ w. e * (n w - 1) + 1) (power A e)
unfolding power
bounds-power {n} f zero = bounds-more bounds-one (λ w l. omega arith)
bounds-power {n} f (suc e) =
    bounds-more (bounds-times (bounds-power f e) f) (λ w l. omega (arith, f.some w l, suc-mul e (n w - 1)))

-- ---- one variable changed: shifts, and the coefficients of a variable

module _ {n : ℕ → ℕ} {A : Series} (f : Bounds n A) (v : ℕ) where
  module _ {m : ℕ → ℕ} {B : Series} (p : ℕ) (g : Bounds m B) where
    pub term_bounds : (i : ℕ) → i < p
        → Bounds (λ w. (without f v) w + (p - 1) * (m w - 1)) (times (coefficient_of v i A) (power B i))
    term_bounds i h =
        bounds-more (bounds-times ((bounds-coefficient f v) i) (bounds-power g i))
        (λ w l. omega (arith, mul-le-mul_right (m w - 1) (let z : i ≤ p - 1 = omega arith in z)))

    pub bounds-substitute : Bounds (λ w. (without f v) w + (p - 1) * (m w - 1)) (substitute v p A B)
    unfolding substitute
    bounds-substitute =
        record {
          some = λ w l. omega (arith, ((bounds-coefficient f v) 0).some w l);
          past = λ w l k q.
              sum_zeros add_z (λ i. times (coefficient_of v i A) (power B i) k) p 0
              (λ i x y. (term_bounds i (omega arith)).past w l k q);
        }

  -- where the variable has one row, nothing is put for it
  pub bounds-kept : (m : ℕ → ℕ) (B : Series) → Bounds (λ w. (without f v) w + (1 - 1) * (m w - 1)) (substitute v 1 A B)
  unfolding substitute power
  bounds-kept m B =
      record {
        some = λ w l. omega (arith, ((bounds-coefficient f v) 0).some w l);
        past = λ w l k q.
            sum_zeros add_z (λ i. times (coefficient_of v i A) (power B i) k) 1 0 (λ i x y.
            let e : i ≡ 0 = omega arith in
            rw e ((bounds-times ((bounds-coefficient f v) 0) bounds-one).past w l k (omega (arith, zero-mul (m w - 1)))));
      }
