-- Document 02, W6: on whole coefficients whose sizes sum to 2 ^ 53 at most the least k is the textbook's for any q: the
-- first with q at most the exact sum of the coefficients 0 to k, as numbers. q is any float: one that is no whole
-- number, an infinity or NaN too.
use Rattle.std.specs.Prelude.{ℕ, zero, suc, ◌+◌, ◌*◌, ◌^◌, ◌≤◌, ◌<◌, Bool, true, false, ◌||◌, List, ◌≡◌, refl, ℤ, pos, negsuc, neg_ℤ, nat_abs, get_or, Float}
use Rattle.std.proofs.Common.{sym, ap, ◌∙◌, arith, mul_assoc, mul_comm, zero-mul}
use Rattle.std.proofs.Math.IntN.{pos-ne-negsuc}
use Rattle.std.specs.Float.{nan, inf, fin}
use Rattle.std.specs.Float.Ieee.{below, level, up, down, le, lt, eq}
use Rattle.std.specs.Float.Ieee.Fits.{down_pos}
use Rattle.model.specs.Readings.{sum_to}
use Rattle.model.specs.Least.{least_of}
use Rattle.model_textbook.specs.Sum.{sum_n, sum_z}
use Rattle.laws_whole.specs.Int.{abs_neg}
use Rattle.laws_whole.specs.Whole.{Whole, signed, abs-signed, finite, fraction, own_sign}
use Rattle.readings_sums.specs.First.{least-found, least-none}
use Rattle.laws_sums.specs.Order.{at_most_lem, most-at}
use Rattle.laws_sums.specs.Textbook.{at_most, zero-only, of_signs, to_signs, cancelled, scaled, same_truth, sum-whole}

-- z times c
abbrev pub whole_times : ℤ → ℕ → ℤ
whole_times (pos n) c = pos (n * c)
whole_times (negsuc n) c = neg_ℤ (pos (suc n * c))

-- q at most z, as numbers: a finite q is the fraction m * up e / down e with its sign
abbrev pub reached_by : Float → ℤ → Bool
reached_by nan z = false
reached_by (inf true) z = true
reached_by (inf false) z = false
reached_by (fin s m e) z = at_most (signed s (m * up e)) (whole_times z (down e))

abs-times : (z : ℤ) (c : ℕ) → nat_abs (whole_times z c) ≡ nat_abs z * c
abs-times (pos n) c = refl
abs-times (negsuc n) c = abs_neg (pos (suc n * c))

sign-times : (t : Bool) (z : ℤ) (c : ℕ) → signed t (nat_abs z) ≡ z → signed t (nat_abs (whole_times z c)) ≡ whole_times z c
sign-times false (pos n) c e = refl
sign-times false (negsuc n) c e = absurd (pos-ne-negsuc (suc n) n e)
sign-times true (pos n) c e = let o : n ≡ 0 = zero-only n e in rw (o, zero-mul c) refl
sign-times true (negsuc n) c e = ap (λ (k : ℕ). neg_ℤ (pos k)) (abs_neg (pos (suc n * c)))

pub any-le : (q : Float) {y : Float} {b : ℤ} → Whole y b → le q y ≡ reached_by q b
unfolding le lt eq
any-le nan {b = b} w = finite (λ y. le nan y ≡ false) w (λ t n d v. refl)
any-le (inf true) {b = b} w = finite (λ y. le (inf true) y ≡ true) w (λ t n d v. refl)
any-le (inf false) {b = b} w = finite (λ y. le (inf false) y ≡ false) w (λ t n d v. refl)
any-le (fin s m e) {b = b} w =
    finite (λ y. le (fin s m e) y ≡ reached_by (fin s m e) b) w (λ t n d v.
    let A : ℕ = m * up e in
    let B : ℕ = nat_abs b * down e in
    let g : n * up d * down e ≡ B * down d =
    ap (λ (x : ℕ). x * down e) (fraction t n d v) ∙ (mul_assoc (nat_abs b) (down d) (down e)
    ∙ (ap (λ (x : ℕ). nat_abs b * x) (mul_comm (down d) (down e)) ∙ sym (mul_assoc (nat_abs b) (down e) (down d)))) in
    let a : ℤ = signed s A in
    let z : ℤ = whole_times b (down e) in
    let na : nat_abs a ≡ A = abs-signed s A in
    let nz : nat_abs z ≡ B = abs-times b (down e) in
    let sa : signed s (nat_abs a) ≡ a = ap (signed s) na in
    let sz : signed t (nat_abs z) ≡ z = sign-times t b (down e) (own_sign t n d v) in
    rw g
    (same_truth (below s (A * down d) t (B * down d) || level s (A * down d) t (B * down d)) (at_most a z)
    (λ h. of_signs s t a z sa sz (rw (na, nz) (cancelled A B (down d) (down_pos d) s t (at_most_lem s (A * down d) t (B * down d) h))))
    (λ h. most-at s (A * down d) t (B * down d) (scaled A B (down d) (down_pos d) s t (rw (na, nz) at (to_signs s t a z sa sz h))))))

-- e the coefficients
module _ (a : List Float) (n : ℕ) (e : ℕ → ℤ) (q : Float) (known : (j : ℕ) → j < n → Whole (get_or a j nan) (e j))
    (sizes : sum_n (λ j. nat_abs (e j)) n 0 ≤ 2 ^ 53) where
  exact_any : (j : ℕ) → j < n → le q (sum_to a (j + 1)) ≡ reached_by q (sum_z e (j + 1) 0)
  exact_any j h = any-le q (sum-whole a n e known sizes j h)

  pub wanted-least : (k : ℕ) → k < n → reached_by q (sum_z e (k + 1) 0) ≡ true → ((j : ℕ) → j < k → reached_by q (sum_z e (j + 1) 0) ≡
      false) → least_of a n q ≡ k
  wanted-least k h t f = least-found a n q k h (exact_any k h ∙ t) (λ j l. exact_any j (omega arith) ∙ f j l)

  pub wanted-none : ((j : ℕ) → j < n → reached_by q (sum_z e (j + 1) 0) ≡ false) → least_of a n q ≡ n
  wanted-none f = least-none a n q (λ j h. exact_any j h ∙ f j h)
