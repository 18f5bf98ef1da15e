-- Turns of a power by squaring.
use Rattle.std.specs.Prelude.{ℕ, zero, suc, ◌-◌, ◌/◌, ◌%◌, ◌^◌, ◌≤◌, ◌<◌, cond, ◌≡◌, refl, eqb, Float}
use Rattle.std.proofs.Common.{sym, ◌∙◌, arith}
use Rattle.std.specs.Float.Ieee.{mul}
use Rattle.std.specs.Float.{binary64}
use borrow.Author.Tests.{lt-leb, eq-eqb, ne_eqb}
use Rattle.model.specs.Readings.{one_f}
use Rattle.model_forecast.specs.Totals.{squared_number, number_power}

-- where the lowest bit of the exponent is set, what is reached is multiplied by the base
abbrev pub bit_taken : ℕ → Float → Float → Float
bit_taken e res base = cond (eqb (e % 2) 1) (mul binary64 res base) res

squared-next : (t e : ℕ) (res base : Float) → 1 < e → e < 2 ^ t → (e / 2 < 2 ^ (t - 1))
    × (squared_number t e res base ≡ squared_number (t - 1) (e / 2) (bit_taken e res base) (mul binary64 base base))
unfolding squared_number
squared-next zero e res base h g = absurd (omega arith)
squared-next (suc t) e res base h g = let q : suc t - 1 ≡ t = omega arith in rw q ((omega arith, rw (lt-leb e 1 h)))

squared-last : (t e : ℕ) (res base : Float) → e ≡ 1 → e < 2 ^ t → squared_number t e res base ≡ mul binary64 res base
unfolding squared_number
squared-last zero e res base h g = absurd (omega arith)
squared-last (suc t) e res base h g = rw h

-- what is left to do makes the whole power
pub record Raising (whole : Float) (e : ℕ) (res base : Float) : Type 0 where
  pub turns : ℕ
  pub some : 1 ≤ e
  pub enough : e < 2 ^ turns
  pub value : squared_number turns e res base ≡ whole

pub raising-first : (e : ℕ) (x : Float) → 1 ≤ e → e < 2 ^ 32 → Raising (squared_number 32 e one_f x) e one_f x
raising-first e x p q = record { turns = 32; some = p; enough = q; value = refl }

module _ {whole : Float} {e : ℕ} {res base : Float} (r : Raising whole e res base) where
  pub raising-next : {next : Float} → next ≡ bit_taken e res base → 1 < e → Raising whole (e / 2) next (mul binary64 base base)
  raising-next q h =
      let n = squared-next r.turns e res base h r.enough in
      rw q (record { turns = r.turns - 1; some = omega arith; enough = n.0; value = sym n.1 ∙ r.value })

  pub raising-last : e ≤ 1 → mul binary64 res base ≡ whole
  raising-last h = sym (squared-last r.turns e res base (omega (arith, r.some)) r.enough) ∙ r.value

-- by exponent
module _ (e : ℕ) (x : Float) where
  pub power-none : e ≡ 0 → one_f ≡ number_power e x
  unfolding number_power
  power-none h = rw (eq-eqb e 0 h)

  pub power-one : e ≡ 1 → x ≡ number_power e x
  unfolding number_power
  power-one h = rw h

  pub power-more : (e ≡ 0 → ⊥) → (e ≡ 1 → ⊥) → squared_number 32 e one_f x ≡ number_power e x
  unfolding number_power
  power-more h g = rw (ne_eqb e 0 h, ne_eqb e 1 g)
