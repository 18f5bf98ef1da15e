-- A float of a format is what its own value rounds to, so over 1.0 it stays what it is.
use Rattle.std.specs.Prelude.{ℕ, zero, suc, ◌+◌, ◌-◌, ◌*◌, ◌/◌, ◌%◌, ◌^◌, ◌≤◌, ◌<◌, Bool, true, false, cond, ◌&&◌}
use Rattle.std.specs.Prelude.{◌≡◌, refl, ℤ, pos, negsuc, T, leb, ltb, eqb, Float}
use Rattle.std.proofs.Common.{sym, ap, subst, ◌∙◌, mul-one, one-mul, zero-mul, mul_assoc, mul_comm, mul_right_comm}
use Rattle.std.proofs.Common.{mul-pos, mul-lt-mul_of_pos_right, lt_of_mul-lt-mul_right, lt_of_lt_of_le, lt_irrefl}
use Rattle.std.proofs.Common.{le_trans, le_of_eq, leb→le, ltb→lt, eqb→eq, pow-add, pow_pos, leb-true, leb-false}
use Rattle.std.proofs.Math.Pow.{pow-lt}
use Rattle.std.specs.Float.{nan, inf, fin, Format, binary64}
use Rattle.std.specs.Float.Ieee.{prec, emax, low, up, down, unlike, size, round, div, fits, of_bits, to_bits, top, hid}
use Rattle.std.specs.Float.Ieee.Bits.{of_bits-to_bits}
use Rattle.std.specs.Float.Ieee.Digits.{back}
use Rattle.std.specs.Float.Ieee.Exact.{HasValue, round_exact}
use Rattle.std.specs.Float.Ieee.Fits.{and_l, and_r, down_pos, round-fits}
use Rattle.std.specs.Float.Ieee.Nearest.{div_same}
use Rattle.lists.specs.Test.{decide}
use Rattle.model.specs.Readings.{one_f}

-- of one sign and one size there is one float
same_float : (f : Format) (s : Bool) (m n : ℕ) (e d : ℤ) → T (fits f (fin s m e)) → T (fits f (fin s n d))
    → m * up e * down d ≡ n * up d * down e → fin s m e ≡ fin s n d
unfolding to_bits
same_float f s m n e d p q h =
    let l : ℕ = 2 ^ low f in
    let k : m * up e * l / down e ≡ n * up d * l / down d =
    div_same (m * up e * l) (down e) (n * up d * l) (down d) (down_pos e) (down_pos d)
    (mul_right_comm (m * up e) l (down d) ∙ (ap (λ (x : ℕ). x * l) h ∙ mul_right_comm (n * up d) (down e) l)) in
    sym (of_bits-to_bits f (fin s m e) p)
    ∙ (ap (λ (z : ℕ). of_bits f (cond s (top f) 0 + (size z - prec f) * hid f + z / 2 ^ (size z - prec f))) k ∙ of_bits-to_bits f (fin s n d) q)

of-value : (f : Format) (r : Float) (s : Bool) (m : ℕ) (e : ℤ) → T (fits f r) → T (fits f (fin s m e)) → HasValue r s (m * up e) (down e) → r ≡ fin s m e
of-value f nan s m e p q v = absurd v
of-value f (inf t) s m e p q v = absurd v
of-value f (fin t n d) s m e p q v =
    ap (λ (x : Bool). fin x n d) v.0 ∙ same_float f s n m d e (subst (λ (x : Bool). T (fits f (fin x n d))) v.0 p) q v.1

-- the exponent in units of 2 ^ -l
record Units (l : ℕ) (e : ℤ) : Type 0 where
  many : ℕ
  is : up e * 2 ^ l ≡ 2 ^ many * down e

le-back : (a l : ℕ) → 2 ^ a ≤ 2 ^ l → a ≤ l
le-back a l h = decide (leb a l) (leb-true a l) (λ t. absurd (lt_irrefl (2 ^ l) (lt_of_lt_of_le (pow-lt (leb-false a l t)) h)))

units_of_lem : (l : ℕ) (e : ℤ) → down e ≤ 2 ^ l → Units l e
units_of_lem l (pos k) h = record { many = k + l; is = sym (pow-add 2 k l) ∙ sym (mul-one (2 ^ (k + l))) }
units_of_lem l (negsuc k) h =
    let g : suc k ≤ l = le-back (suc k) l h in
    record { many = l - suc k; is = one-mul (2 ^ l) ∙ (ap (λ (x : ℕ). 2 ^ x) (sym (back l (suc k) g)) ∙ pow-add 2 (l - suc k) (suc k)) }

-- what fitting says
record Fitting (f : Format) (m : ℕ) (e : ℤ) : Type 0 where
  digits : m < 2 ^ prec f
  fine : down e ≤ 2 ^ low f
  under : m * up e < 2 ^ suc (emax f) * down e

zero-fine : (f : Format) (e : ℤ) → up e * down e ≡ 1 → down e ≤ 2 ^ low f
zero-fine f (pos k) h = pow_pos (low f)
zero-fine f (negsuc k) h = le_trans (le_of_eq (sym (one-mul (2 ^ suc k)) ∙ h)) (pow_pos (low f))

fitting : (f : Format) (s : Bool) (m : ℕ) (e : ℤ) → T (fits f (fin s m e)) → Fitting f m e
unfolding fits
fitting f s zero e t = record {
  digits = pow_pos (prec f);
  fine = zero-fine f e (eqb→eq (up e * down e) 1 t);
  under = subst (λ (x : ℕ). x < 2 ^ suc (emax f) * down e) (sym (zero-mul (up e))) (mul-pos (pow_pos (suc (emax f))) (down_pos e));
}
fitting f s (suc m) e t =
    let a : Bool = eqb (suc m % 2) 1 in
    let b : Bool = ltb (suc m) (2 ^ prec f) in
    let c : Bool = leb (down e) (2 ^ low f) in
    let d : Bool = ltb (suc m * up e) (2 ^ suc (emax f) * down e) in
    let abc : T (a && b && c) = and_l (a && b && c) d t in
    record {
      digits = ltb→lt (suc m) (2 ^ prec f) (and_r a b (and_l (a && b) c abc));
      fine = leb→le (down e) (2 ^ low f) (and_r (a && b) c abc);
      under = ltb→lt (suc m * up e) (2 ^ suc (emax f) * down e) (and_r (a && b && c) d t);
    }

pub round-own : (f : Format) (s : Bool) (m : ℕ) (e : ℤ) → T (fits f (fin s m e)) → round f s (m * up e) (down e) ≡ fin s m e
round-own f s m e t =
    let l : ℕ = low f in
    let g : Fitting f m e = fitting f s m e t in
    let u : Units l e = units_of_lem l e g.fine in
    let j : ℕ = u.many in
    let same : m * up e * 2 ^ l ≡ m * 2 ^ j * down e =
    mul_assoc m (up e) (2 ^ l) ∙ (ap (λ (x : ℕ). m * x) u.is ∙ sym (mul_assoc m (2 ^ j) (down e))) in
    let most : 2 ^ suc (emax f) * down e * 2 ^ l ≡ 2 ^ (l + suc (emax f)) * down e =
    mul_right_comm (2 ^ suc (emax f)) (down e) (2 ^ l)
    ∙ ap (λ (x : ℕ). x * down e) (mul_comm (2 ^ suc (emax f)) (2 ^ l) ∙ sym (pow-add 2 l (suc (emax f)))) in
    let less : m * 2 ^ j * down e < 2 ^ (l + suc (emax f)) * down e =
    subst (λ (x : ℕ). x < 2 ^ (l + suc (emax f)) * down e) same
    (subst (λ (x : ℕ). m * up e * 2 ^ l < x) most (mul-lt-mul_of_pos_right g.under (pow_pos l))) in
    of-value f (round f s (m * up e) (down e)) s m e (round-fits f s (m * up e) (down e)) t
    (round_exact f s (m * up e) (down e) m j (down_pos e) g.digits (lt_of_mul-lt-mul_right (down e) less) same)

pub unlike-plus : (s : Bool) → unlike s false ≡ s
unlike-plus true = refl
unlike-plus false = refl

-- over 1.0
pub div-one : (x : Float) → T (fits binary64 x) → div binary64 x one_f ≡ x
unfolding div of_bits
div-one nan t = refl
div-one (inf s) t = ap inf (unlike-plus s)
div-one (fin s m e) t =
    ap (λ (z : Bool). round binary64 z (m * up e * 1) (1 * down e)) (unlike-plus s)
    ∙ (ap (λ (n : ℕ). round binary64 s n (1 * down e)) (mul-one (m * up e))
    ∙ (ap (round binary64 s (m * up e)) (one-mul (down e)) ∙ round-own binary64 s m e t))
