-- Rounded sums from +0.0 of floats that are neither negative nor NaN do not fall.
use Prim.Native.Nat.{ℕ, zero, suc, ◌+◌, ◌-◌, ◌*◌, ◌^◌, ◌≤◌, ◌<◌}
use Rattle.std.specs.Prelude.{Bool, not, cond, ◌&&◌, List, ◌≡◌, ℤ, T, ltb, get_or, Float}
use Rattle.std.proofs.Math.Bool.{true, false}
use Rattle.std.proofs.lemmas.Bool.{false≢true}
use Rattle.std.proofs.Math.Path.{refl, sym, ap}
use Rattle.std.proofs.Common.{subst, ◌∙◌, mul_comm, mul_assoc, mul-pos, mul-le-mul_right, le_trans, le_of_eq, zero-lt-suc, add-zero}
use native.Mathlib.Omega.{arith}
use Rattle.std.specs.Float.{nan, inf, fin}
use Rattle.std.specs.Float.Ieee.{binary64, prec, emax, low, up, down, odd, units, round, sum, add, le, lt, eq, fits, of_bits}
use Rattle.std.specs.Float.Ieee.Bits.{is_true, of_bits-fits}
use Rattle.std.specs.Float.Ieee.Fits.{up_pos, down_pos, add-fits, round_is}
use Rattle.std.specs.Float.Ieee.Order.{round_mono}
use borrow.Author.Tests.{le-ltb}
use Rattle.lists.specs.Walk.{walk, Walked, walked_more, walked_end}
use Rattle.model.specs.Refusals.{zero_f}
use Rattle.model.specs.Readings.{sum_to}
use Rattle.readings_sums.specs.Sums.{plus_at}
use Rattle.laws_sums.specs.Own.{round-own}
use Rattle.laws_sums.specs.Order.{at_most_lem, none, none_of, le-chain}

-- neither a NaN nor with a minus
abbrev pub plain : Float → Bool
plain nan = false
plain (inf s) = not s
plain (fin s m e) = not s

plain-odd : (d q k l : ℕ) → plain (odd d false q k l) ≡ true
unfolding odd
plain-odd d zero k l = refl
plain-odd d (suc q) k l = refl

plain-either : (b : Bool) (x : Float) → plain x ≡ true → plain (cond b x (inf false)) ≡ true
plain-either true x p = p
plain-either false x p = refl

plain-units : (q k : ℕ) → plain (units binary64 false q k) ≡ true
unfolding units
plain-units q k =
    plain-either (ltb (q * 2 ^ k) (2 ^ (low binary64 + suc (emax binary64)))) (odd (suc (prec binary64)) false q k (low binary64))
    (plain-odd (suc (prec binary64)) q k (low binary64))

plain-round : (a c : ℕ) → plain (round binary64 false a c) ≡ true
plain-round a c = ap plain (round_is binary64 false a c) ∙ plain-units _ _

-- a zero with a minus
zero-size : (n : ℕ) (d : ℤ) → le zero_f (fin true n d) ≡ true → n ≡ 0
unfolding le lt eq of_bits
zero-size n d h = none n (up d) (up_pos d) (none (n * up d) 1 (zero-lt-suc 0) (at_most_lem false _ true (n * up d * 1) h).1)

module _ (m : ℕ) (e : ℤ) where
  abbrev whole : ℕ → ℤ → Float
  whole n d = round binary64 false (m * up e * down d + n * up d * down e) (down e * down d)

  -- what is added is not negative
  add_is : (t : Bool) (n : ℕ) (d : ℤ) → le zero_f (fin t n d) ≡ true → add binary64 (fin false m e) (fin t n d) ≡ whole n d
  unfolding add sum
  add_is false n d h = refl
  add_is true n d h =
      let A : ℕ = m * up e * down d in
      let z : n * up d * down e ≡ 0 = none_of (n * up d) (down e) (none_of n (up d) (zero-size n d h)) in
      let k : A - 0 ≡ A + 0 = omega arith in
      rw (z, le-ltb A 0 (omega arith)) (ap (λ (x : ℕ). round binary64 false x (down e * down d)) k)

  grows : (n : ℕ) (d : ℤ) → T (fits binary64 (fin false m e)) → le (fin false m e) (whole n d) ≡ true
  grows n d f =
      let A : ℕ = m * up e * down d in
      let B : ℕ = n * up d * down e in
      let same : m * up e * (down e * down d) ≡ A * down e =
      ap (λ (z : ℕ). m * up e * z) (mul_comm (down e) (down d)) ∙ sym (mul_assoc (m * up e) (down d) (down e)) in
      let more : A ≤ A + B = omega arith in
      ap (λ (x : Float). le x (whole n d)) (sym (round-own binary64 false m e f))
      ∙ is_true _ (round_mono binary64 (m * up e) (down e) (A + B) (down e * down d) (down_pos e) (mul-pos (down_pos e) (down_pos d))
      (le_trans (le_of_eq same) (mul-le-mul_right (down e) more)))

pub record Risen (s r : Float) : Type 0 where
  pub above : le s r ≡ true
  pub plainly : plain r ≡ true

pub rises : (s x : Float) → T (fits binary64 s) → plain s ≡ true → le zero_f x ≡ true → Risen s (add binary64 s x)
unfolding le lt eq add of_bits
rises nan x f p h = absurd (false≢true p)
rises (inf true) x f p h = absurd (false≢true p)
rises (inf false) nan f p h = absurd (false≢true h)
rises (inf false) (inf true) f p h = absurd (false≢true h)
rises (inf false) (inf false) f p h = record { above = refl; plainly = refl }
rises (inf false) (fin t n d) f p h = record { above = refl; plainly = refl }
rises (fin true m e) x f p h = absurd (false≢true p)
rises (fin false m e) nan f p h = absurd (false≢true h)
rises (fin false m e) (inf true) f p h = absurd (false≢true h)
rises (fin false m e) (inf false) f p h = record { above = refl; plainly = refl }
rises (fin false m e) (fin t n d) f p h =
    subst (Risen (fin false m e)) (sym (add_is m e t n d h))
    (record { above = grows m e n d f; plainly = plain-round (m * up e * down d + n * up d * down e) (down e * down d) })

-- ---- running sums

module _ (a : List Float) where
  walked : (k : ℕ) → Walked (plus_at a) 0 k zero_f (sum_to a k)
  unfolding sum_to
  walked k = let e : k ≡ k - 0 = omega arith in record { from = omega arith; is = ap (λ (n : ℕ). walk (plus_at a) n 0 zero_f) e }

  pub sum_more : (k : ℕ) → sum_to a (suc k) ≡ add binary64 (sum_to a k) (get_or a k nan)
  unfolding sum_to
  sum_more k = sym (walked_end (suc k) (walked_more (walked k) refl) (omega arith))

  module _ (n : ℕ) (known : (j : ℕ) → j < n → le zero_f (get_or a j nan) ≡ true) where
    sum_fits : (k : ℕ) → T (fits binary64 (sum_to a k))
    unfolding sum_to walk
    sum_fits zero = of_bits-fits binary64 0
    sum_fits (suc k) = rw (sum_more k) (add-fits binary64 (sum_to a k) (get_or a k nan))

    sum-plain : (k : ℕ) → k ≤ n → plain (sum_to a k) ≡ true
    unfolding sum_to walk of_bits
    sum-plain zero h = refl
    sum-plain (suc k) h = rw (sum_more k) (rises (sum_to a k) (get_or a k nan) (sum_fits k) (sum-plain k (omega arith)) (known k (omega arith))).plainly

    -- the next sum is not below
    sum-above : (k : ℕ) → k < n → le (sum_to a k) (sum_to a (suc k)) ≡ true
    sum-above k h = ap (le (sum_to a k)) (sum_more k) ∙ (rises (sum_to a k) (get_or a k nan) (sum_fits k) (sum-plain k (omega arith)) (known k h)).above

    -- nor is any later one
    pub sums_rise : (q : Float) (k i : ℕ) → k + i ≤ n → le q (sum_to a k) ≡ true → le q (sum_to a (k + i)) ≡ true
    sums_rise q k zero h t = rw (add-zero k) t
    sums_rise q k (suc i) h t =
        let e : k + suc i ≡ suc (k + i) = omega arith in
        rw e (le-chain q (sum_to a (k + i)) (sum_to a (suc (k + i))) (sums_rise q k i (omega arith) t) (sum-above (k + i) (omega arith)))
