-- Document 02, W1. On whole coefficients with a whole total, both within 2 ^ 53, numerator and denominator of a tail
-- are exact: it is the one rounded quotient of the exact numbers. Of the total 1.0 it is 1.0 minus the sum.
use Rattle.std.specs.Prelude.{ℕ, zero, suc, ◌+◌, ◌-◌, ◌*◌, ◌^◌, ◌≤◌, ◌<◌, min, Bool, not, cond, ◌&&◌, List, ◌≡◌}
use Rattle.std.specs.Prelude.{refl, ltb, eqb, ℤ, pos, negsuc, neg_ℤ, nat_abs, ◌+ℤ◌, ◌-ℤ◌, get_or, Float}
use Rattle.std.proofs.Math.Bool.{true, false}
use Rattle.std.proofs.Common.{sym, subst, ◌∙◌, arith, mul-one, zero-mul, mul_comm, mul_assoc, mul_left_comm, mul-pos}
use Rattle.std.proofs.Common.{add-mul, zero-lt-suc, mul-lt-mul_of_pos_right, mul-le-mul_right, lt-ltb, le-ltb}
use Rattle.std.proofs.Common.{ltb-true, ltb-false, eqb-true}
use Rattle.std.proofs.Math.Path.{ap}
use Rattle.std.proofs.Math.Nat.{mul-sub}
use Rattle.std.proofs.Math.IntN.{neg_ℤ-neg_ℤ, pos-ne-negsuc}
use Rattle.std.specs.Float.{nan, inf, fin}
use Rattle.std.specs.Float.Ieee.{binary64, up, down, unlike, round, add, sub, div, neg, sum}
use Rattle.std.specs.Float.Ieee.Back.{round_whole}
use Rattle.std.specs.Float.Ieee.Exact.{HasValue}
use Rattle.std.specs.Float.Ieee.Fits.{down_pos, sub-fits}
use Rattle.std.specs.Float.Ieee.Positive.{first_pos}
use Rattle.std.specs.Float.Ieee.Scale.{round_same}
use Rattle.lists.specs.Test.{decide}
use Rattle.model.specs.Readings.{one_f, sum_to}
use Rattle.model.specs.Tail.{tail_of}
use Rattle.model_textbook.specs.Sum.{sum_n, sum_z}
use Rattle.laws_whole.specs.Whole.{Whole, signed, both-finite, common, own_sign}
use Rattle.laws_whole.proofs.Steps.{whole_list}
use Rattle.laws_sums.specs.Own.{unlike-plus, div-one}

-- of the total 1.0: what document 01 asks
pub tail_of-one : (a : List Float) (n k : ℕ) → tail_of a n k one_f ≡ sub binary64 one_f (sum_to a (min n (k + 1)))
unfolding tail_of
tail_of-one a n k = div-one (sub binary64 one_f (sum_to a (min n (k + 1)))) (sub-fits binary64 one_f (sum_to a (min n (k + 1))))

-- the float nearest to z / d, +0.0 for 0
unfoldable pub nearest_to : ℤ → ℕ → Float
nearest_to (pos n) d = round binary64 false n d
nearest_to (negsuc n) d = round binary64 true (suc n) d

-- ---- a difference of whole floats, the first above 0, has the sign of the number; 0 is +0.0

-- a fraction over c of whole units
over : (s : Bool) (n c : ℕ) → 0 < c → round binary64 s (n * c) c ≡ round binary64 s n 1
over s n c p = round_same binary64 s (n * c) c n 1 p (zero-lt-suc 0) (mul-one (n * c))

minus-mul : (a b c : ℕ) → a * c - b * c ≡ (a - b) * c
minus-mul a b c = ap (λ (x : ℕ). x - b * c) (mul_comm a c) ∙ (ap (λ (x : ℕ). c * a - x) (mul_comm b c) ∙ (sym (mul-sub c a b) ∙ mul_comm c (a - b)))

module _ (a b c : ℕ) (p : 0 < c) where
  less : ltb a b ≡ true → sum binary64 false (a * c) true (b * c) c ≡ round binary64 true (b - a) 1
  unfolding sum
  less t =
      rw (lt-ltb (a * c) (b * c) (mul-lt-mul_of_pos_right (ltb-true a b t) p))
      (ap (λ (x : ℕ). round binary64 true x c) (minus-mul b a c) ∙ over true (b - a) c p)

  more : ltb a b ≡ false → sum binary64 false (a * c) true (b * c) c ≡ round binary64 false (a - b) 1
  unfolding sum
  more t =
      rw (le-ltb (a * c) (b * c) (mul-le-mul_right c (ltb-false a b t)))
      (ap (λ (x : ℕ). round binary64 false x c) (minus-mul a b c) ∙ over false (a - b) c p)

lessened : (a b c : ℕ) → 0 < c → sum binary64 false (a * c) true (b * c) c ≡ nearest_to (pos a -ℤ pos b) 1
unfolding nearest_to
lessened a zero c p =
    let e : a - 0 ≡ a + 0 = omega arith in
    more a zero c p (le-ltb a 0 (omega arith)) ∙ ap (λ (x : ℕ). round binary64 false x 1) e
lessened a (suc b) c p =
    decide (ltb a (suc b))
    (λ t.
    let e : suc b - a ≡ suc (suc b - suc a) = omega (arith, ltb-true a (suc b) t) in
    rw t (less a (suc b) c p t ∙ ap (λ (x : ℕ). round binary64 true x 1) e))
    (λ t. rw t (more a (suc b) c p t))

added : (a b c : ℕ) → 0 < c → sum binary64 false (a * c) false (b * c) c ≡ nearest_to (pos a -ℤ neg_ℤ (pos b)) 1
unfolding sum nearest_to
added a b c p =
    ap (λ (x : ℕ). round binary64 false x c) (sym (add-mul a b c))
    ∙ (over false (a + b) c p ∙ ap (λ (z : ℤ). nearest_to (pos a +ℤ z) 1) (sym (neg_ℤ-neg_ℤ (pos b))))

-- a number above 0 has no minus
plus-sign : (s : Bool) (t : ℕ) → 0 < t → signed s t ≡ pos t → s ≡ false
plus-sign false t h e = refl
plus-sign true zero h e = absurd (omega arith)
plus-sign true (suc t) h e = absurd (pos-ne-negsuc (suc t) t (sym e))

by_sign : (σ : Bool) (t n c : ℕ) → 0 < c → sum binary64 false (t * c) (not σ) (n * c) c ≡ nearest_to (pos t -ℤ signed σ n) 1
by_sign false t n c p = lessened t n c p
by_sign true t n c p = added t n c p

module _ {t : ℕ} {b : ℤ} (h : 0 < t) where
  difference : {x y : Float} → Whole x (pos t) → Whole y b → sub binary64 x y ≡ nearest_to (pos t -ℤ b) 1
  unfolding sub add neg
  difference p q =
      both-finite (λ x y. sub binary64 x y ≡ nearest_to (pos t -ℤ b) 1) p q (λ s m e σ n d p q.
      let f = common s m e σ n d p q in
      let plus : s ≡ false = plus-sign s t h (own_sign s m e p) in
      rw (f.0, f.1, plus)
      (by_sign σ t (nat_abs b) (down e * down d) (mul-pos (down_pos e) (down_pos d)) ∙ ap (λ (z : ℤ). nearest_to (pos t -ℤ z) 1) (own_sign σ n d q)))

-- ---- the quotient

div-at : (s : Bool) (x y : Float) (n d : ℕ) → 0 < d → HasValue x s n 1 → HasValue y false d 1 → div binary64 x y ≡ round binary64 s n d
unfolding div
div-at s nan y n d D p q = absurd p
div-at s (inf t) y n d D p q = absurd p
div-at s (fin t m e) nan n d D p q = absurd q
div-at s (fin t m e) (inf u) n d D p q = absurd q
div-at s (fin t m e) (fin u k g) n d D p q =
    let E : m * up e ≡ n * down e = sym (mul-one (m * up e)) ∙ p.1 in
    let F : k * up g ≡ d * down g = sym (mul-one (k * up g)) ∙ q.1 in
    let K : 0 < k = first_pos k (up g) (subst (λ (z : ℕ). 0 < z) (sym F) (mul-pos D (down_pos g))) in
    let B : 0 < k * up g * down e = mul-pos (subst (λ (z : ℕ). 0 < z) (sym F) (mul-pos D (down_pos g))) (down_pos e) in
    let sign : unlike t u ≡ s = ap (λ (z : Bool). unlike z u) p.0 ∙ (ap (unlike s) q.0 ∙ unlike-plus s) in
    let even : n * down e * down g * d ≡ n * (d * down g * down e) = simp (mul_assoc, mul_comm, mul_left_comm) in
    let same : m * up e * down g * d ≡ n * (k * up g * down e) =
    ap (λ (z : ℕ). z * down g * d) E ∙ (even ∙ sym (ap (λ (z : ℕ). n * (z * down e)) F)) in
    decide (eqb k 0)
    (λ z. absurd (omega (arith, eqb-true k 0 z)))
    (λ z.
    rw z
    (ap (λ (v : Bool). round binary64 v (m * up e * down g) (k * up g * down e)) sign
    ∙ round_same binary64 s (m * up e * down g) (k * up g * down e) n d B D same))

quotient : (z : ℤ) (y : Float) (d : ℕ) → 0 < d → nat_abs z ≤ 2 ^ 53 → HasValue y false d 1 → div binary64 (nearest_to z 1) y ≡ nearest_to z d
unfolding nearest_to
quotient (pos n) y d D l q = div-at false (round binary64 false n 1) y n d D (round_whole binary64 false n l) q
quotient (negsuc n) y d D l q = div-at true (round binary64 true (suc n) 1) y (suc n) d D (round_whole binary64 true (suc n) l) q

-- e the coefficients, t the total
module _ (a : List Float) (n k : ℕ) (e : ℕ → ℤ) (t : ℕ) where
  abbrev left : ℤ
  left = pos t -ℤ sum_z e (min n (k + 1)) 0

  pub tail-exact : (total : Float) → Whole total (pos t) → 0 < t → ((j : ℕ) → j < min n (k + 1) → Whole (get_or a j nan) (e j))
      → sum_n (λ j. nat_abs (e j)) (min n (k + 1)) 0 ≤ 2 ^ 53 → nat_abs left ≤ 2 ^ 53 → tail_of a n k total ≡ nearest_to left t
  unfolding tail_of sum_to
  tail-exact total w h known sizes most =
      ap (λ (x : Float). div binary64 x total) (difference h w (whole_list a e (min n (k + 1)) known sizes))
      ∙ quotient left total t h most (subst (λ (s : Bool). HasValue total s t 1) (plus-sign w.sign t h w.is) w.value)
