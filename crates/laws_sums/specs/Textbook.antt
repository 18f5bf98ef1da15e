-- Document 02, W6: on whole coefficients whose sizes sum to 2 ^ 53 at most, and a whole q, the least k is the
-- textbook's: the first with q at most the exact sum of the coefficients 0 to k.
use Rattle.std.specs.Prelude.{ℕ, zero, suc, ◌+◌, ◌*◌, ◌^◌, ◌≤◌, ◌<◌, Bool, true, false, ◌||◌, List, ◌↔◌, ◌≡◌, refl, leb, ℤ, pos, negsuc, neg_ℤ, get_or, Float}
use Rattle.std.proofs.lemmas.Bool.{false≢true}
use Rattle.std.proofs.Common.{sym, ap, ◌∙◌, arith, mul-pos, mul-le-mul_right, le_of_mul-le-mul_right, le-leb, leb-true}
use Rattle.std.proofs.Math.IntN.{nat_abs, pos-ne-negsuc}
use Rattle.std.specs.Float.{nan}
use Rattle.std.specs.Float.Ieee.{below, level, up, down, le, lt, eq}
use Rattle.std.specs.Float.Ieee.Fits.{down_pos}
use Rattle.model.specs.Readings.{sum_to}
use Rattle.model.specs.Least.{least_of}
use Rattle.model_textbook.specs.Sum.{sum_n, sum_z}
use Rattle.laws_whole.specs.SumSizes.{sum_n-part}
use Rattle.laws_whole.proofs.Steps.{whole_list}
use Rattle.laws_whole.specs.Whole.{Whole, signed, both-finite, common, own_sign}
use Rattle.readings_sums.specs.First.{least-found, least-none}
use Rattle.laws_sums.specs.Order.{AtMost, at_most_lem, most-at, none, none_of}

-- the order of whole numbers
abbrev pub at_most : ℤ → ℤ → Bool
at_most (pos a) (pos b) = leb a b
at_most (pos a) (negsuc b) = false
at_most (negsuc a) (pos b) = true
at_most (negsuc a) (negsuc b) = leb b a

-- a number with a minus that is not below 0
pub zero-only : (n : ℕ) → neg_ℤ (pos n) ≡ pos n → n ≡ 0
zero-only zero e = refl
zero-only (suc n) e = absurd (pos-ne-negsuc (suc n) n (sym e))

-- sizes with signs, and the numbers that they are
pub of_signs : (s t : Bool) (a b : ℤ) → signed s (nat_abs a) ≡ a → signed t (nat_abs b) ≡ b → AtMost s (nat_abs a) t (nat_abs b) → at_most a b ≡ true
of_signs false false (pos n) (pos m) p q h = le-leb n m h
of_signs false false (pos n) (negsuc m) p q h = absurd (pos-ne-negsuc (suc m) m q)
of_signs false false (negsuc n) (pos m) p q h = absurd (pos-ne-negsuc (suc n) n p)
of_signs false false (negsuc n) (negsuc m) p q h = absurd (pos-ne-negsuc (suc n) n p)
of_signs false true (pos n) (pos m) p q h = le-leb n m (omega (arith, h.0))
of_signs false true (pos n) (negsuc m) p q h = absurd (omega (arith, h.1))
of_signs false true (negsuc n) (pos m) p q h = absurd (pos-ne-negsuc (suc n) n p)
of_signs false true (negsuc n) (negsuc m) p q h = absurd (pos-ne-negsuc (suc n) n p)
of_signs true false (pos n) (pos m) p q h = le-leb n m (omega (arith, zero-only n p))
of_signs true false (pos n) (negsuc m) p q h = absurd (pos-ne-negsuc (suc m) m q)
of_signs true false (negsuc n) (pos m) p q h = refl
of_signs true false (negsuc n) (negsuc m) p q h = absurd (pos-ne-negsuc (suc m) m q)
of_signs true true (pos n) (pos m) p q h = le-leb n m (omega (arith, zero-only n p))
of_signs true true (pos n) (negsuc m) p q h = absurd (omega (arith, zero-only n p, h))
of_signs true true (negsuc n) (pos m) p q h = refl
of_signs true true (negsuc n) (negsuc m) p q h = le-leb m n (omega (arith, h))

pub to_signs : (s t : Bool) (a b : ℤ) → signed s (nat_abs a) ≡ a → signed t (nat_abs b) ≡ b → at_most a b ≡ true → AtMost s (nat_abs a) t (nat_abs b)
to_signs false false (pos n) (pos m) p q h = leb-true n m h
to_signs false false (pos n) (negsuc m) p q h = absurd (pos-ne-negsuc (suc m) m q)
to_signs false false (negsuc n) (pos m) p q h = absurd (pos-ne-negsuc (suc n) n p)
to_signs false false (negsuc n) (negsuc m) p q h = absurd (pos-ne-negsuc (suc n) n p)
to_signs false true (pos n) (pos m) p q h = let z = zero-only m q in let l = leb-true n m h in (omega arith, z)
to_signs false true (pos n) (negsuc m) p q h = absurd (false≢true h)
to_signs false true (negsuc n) (pos m) p q h = absurd (pos-ne-negsuc (suc n) n p)
to_signs false true (negsuc n) (negsuc m) p q h = absurd (pos-ne-negsuc (suc n) n p)
to_signs true false (pos n) (pos m) p q h = omega arith
to_signs true false (pos n) (negsuc m) p q h = absurd (pos-ne-negsuc (suc m) m q)
to_signs true false (negsuc n) (pos m) p q h = omega arith
to_signs true false (negsuc n) (negsuc m) p q h = absurd (pos-ne-negsuc (suc m) m q)
to_signs true true (pos n) (pos m) p q h = omega (arith, zero-only m q)
to_signs true true (pos n) (negsuc m) p q h = absurd (false≢true h)
to_signs true true (negsuc n) (pos m) p q h = omega (arith, zero-only m q)
to_signs true true (negsuc n) (negsuc m) p q h = omega (arith, leb-true m n h)

-- over one denominator
module _ (a b c : ℕ) (p : 0 < c) where
  pub cancelled : (s t : Bool) → AtMost s (a * c) t (b * c) → AtMost s a t b
  cancelled false false h = le_of_mul-le-mul_right h p
  cancelled false true h = (none a c p h.0, none b c p h.1)
  cancelled true false h = omega arith
  cancelled true true h = le_of_mul-le-mul_right h p

  pub scaled : (s t : Bool) → AtMost s a t b → AtMost s (a * c) t (b * c)
  scaled false false h = mul-le-mul_right c h
  scaled false true h = (none_of a c h.0, none_of b c h.1)
  scaled true false h = omega arith
  scaled true true h = mul-le-mul_right c h

pub same_truth : (x y : Bool) → (x ≡ true → y ≡ true) → (y ≡ true → x ≡ true) → x ≡ y
same_truth true y f g = sym (f refl)
same_truth false true f g = g refl
same_truth false false f g = refl

-- `<=` on whole floats is the order of the numbers
pub whole_le : {x y : Float} {a b : ℤ} → Whole x a → Whole y b → le x y ≡ at_most a b
unfolding le lt eq
whole_le {a} {b} p q =
    both-finite (λ x y. le x y ≡ at_most a b) p q (λ s m e t n d p q.
    let c : ℕ = down e * down d in
    let C : 0 < c = mul-pos (down_pos e) (down_pos d) in
    let f = common s m e t n d p q in
    let A : ℕ = nat_abs a in
    let B : ℕ = nat_abs b in
    rw (f.0, f.1)
    (same_truth (below s (A * c) t (B * c) || level s (A * c) t (B * c)) (at_most a b)
    (λ h. of_signs s t a b (own_sign s m e p) (own_sign t n d q) (cancelled A B c C s t (at_most_lem s (A * c) t (B * c) h)))
    (λ h. most-at s (A * c) t (B * c) (scaled A B c C s t (to_signs s t a b (own_sign s m e p) (own_sign t n d q) h)))))

-- e the coefficients
module _ (a : List Float) (n : ℕ) (e : ℕ → ℤ) (known : (j : ℕ) → j < n → Whole (get_or a j nan) (e j))
    (sizes : sum_n (λ j. nat_abs (e j)) n 0 ≤ 2 ^ 53) where
  pub sum-whole : (j : ℕ) → j < n → Whole (sum_to a (j + 1)) (sum_z e (j + 1) 0)
  unfolding sum_to
  sum-whole j h =
      whole_list a e (j + 1) (λ i l. known i (omega arith))
      (omega (arith, sum_n-part (λ j. nat_abs (e j)) (j + 1) 0 n 0 (omega arith) (omega arith)))

  -- z the wanted number
  module _ (q : Float) (z : ℤ) (wanted : Whole q z) where
    pub exact-sums : (j : ℕ) → j < n → le q (sum_to a (j + 1)) ≡ at_most z (sum_z e (j + 1) 0)
    exact-sums j h = whole_le wanted (sum-whole j h)

    pub textbook-least : (k : ℕ) → k < n → at_most z (sum_z e (k + 1) 0) ≡ true → ((j : ℕ) → j < k → at_most z (sum_z e (j + 1) 0) ≡ false) → least_of a n q ≡ k
    textbook-least k h t f = least-found a n q k h (exact-sums k h ∙ t) (λ j l. exact-sums j (omega arith) ∙ f j l)

    pub textbook-none : ((j : ℕ) → j < n → at_most z (sum_z e (j + 1) 0) ≡ false) → least_of a n q ≡ n
    textbook-none f = least-none a n q (λ j h. exact-sums j h ∙ f j h)
