-- The powers of ten that a float holds, and division of whole numbers that floats hold.
use Rattle.std.specs.Prelude.{ℕ, zero, suc, ◌+◌, ◌*◌, ◌^◌, ◌≤◌, ◌<◌, Bool, true, false, not, ◌&&◌, List, [], ◌∷◌, ◌≡◌, refl, T, ltb, eqb, get_or, Float, pos}
use Rattle.std.proofs.Common.{sym, ap, ◌∙◌, subst, arith, mul-one, zero-mul, mul_assoc, mul_comm, mul_left_comm}
use Rattle.std.proofs.Common.{mul-pos, le→leb, pow_pos, ne_eqb, eqb-true, ltb-true}
use Rattle.std.proofs.Math.Nat.{pow-le-pow_right}
use Rattle.std.specs.Float.{nan, inf, fin, binary64}
use Rattle.std.specs.Float.Ieee.{up, down, of_bits, of_int, in_float, round, div}
use Rattle.std.specs.Float.Ieee.Exact.{HasValue}
use Rattle.std.specs.Float.Ieee.Fits.{down_pos}
use Rattle.std.specs.Float.Ieee.Back.{round_whole}
use Rattle.std.specs.Float.Ieee.Scale.{round_same}
use Rattle.lists.specs.Every.{every}
use Rattle.lists.specs.Test.{and_left, and_right}
use Rattle.model_texts.specs.Number.{exponent_of}
use Rattle.model_decimals.specs.Value.{minus_of, units_of}
use Rattle.decimals_values.specs.Values.{word_value, has_same}

-- the words of 1.0, 10.0, .. up to 10 ^ 22
unfoldable pub tens : List ℕ
tens =
    4607182418800017408 ∷ 4621819117588971520 ∷ 4636737291354636288 ∷ 4652007308841189376 ∷ 4666723172467343360 ∷ 4681608360884174848
    ∷ 4696837146684686336 ∷ 4711630319722168320 ∷ 4726483295884279808 ∷ 4741671816366391296 ∷ 4756540486875873280 ∷ 4771362005757984768
    ∷ 4786511204640096256 ∷ 4801453603149578240 ∷ 4816244402031689728 ∷ 4831355200913801216 ∷ 4846369599423283200 ∷ 4861130398305394688
    ∷ 4876203697187506176 ∷ 4891288408196988160 ∷ 4906019910204099648 ∷ 4921056587992461136 ∷ 4936209963552724370
    ∷ []

-- the word number k is no large one, has no minus, and is 10 ^ k
abbrev is_ten : ℕ → Bool
is_ten k =
    (ltb (exponent_of (get_or tens k 0)) 2047 && not (minus_of (get_or tens k 0))) && eqb (units_of (get_or tens k 0)) (10 ^ k * 2 ^ 1074)

all-tens : every is_ten 23 0 ≡ true
unfolding every tens units_of
all-tens = refl

zero-add : (k : ℕ) → 0 + k ≡ k
zero-add k = omega arith

every-at : (f : ℕ → Bool) (n p k : ℕ) → every f n p ≡ true → k < n → f (p + k) ≡ true
unfolding every
every-at f zero p k h l = absurd (omega arith)
every-at f (suc n) p zero h l = let e : p + 0 ≡ p = omega arith in rw e (and_left (f p) (every f n (suc p)) h)
every-at f (suc n) p (suc k) h l =
    let e : p + suc k ≡ suc p + k = omega arith in
    rw e (every-at f n (suc p) k (and_right (f p) (every f n (suc p)) h) (omega arith))

pub ten-value : (k : ℕ) → k < 23 → HasValue (of_bits binary64 (get_or tens k 0)) false (10 ^ k) 1
ten-value k l = by (get_or tens k 0) (subst (λ (j : ℕ). is_ten j ≡ true) (zero-add k) (every-at is_ten 23 0 k all-tens l))
  where
    no_minus : (b : Bool) → not b ≡ true → b ≡ false
    no_minus true h = sym h
    no_minus false h = refl

    by : (w : ℕ) → ((ltb (exponent_of w) 2047 && not (minus_of w)) && eqb (units_of w) (10 ^ k * 2 ^ 1074)) ≡ true
        → HasValue (of_bits binary64 w) false (10 ^ k) 1
    by w h =
        let small = and_left (ltb (exponent_of w) 2047 && not (minus_of w)) (eqb (units_of w) (10 ^ k * 2 ^ 1074)) h in
        let is = eqb-true _ _ (and_right (ltb (exponent_of w) 2047 && not (minus_of w)) (eqb (units_of w) (10 ^ k * 2 ^ 1074)) h) in
        let l = ltb-true _ _ (and_left (ltb (exponent_of w) 2047) (not (minus_of w)) small) in
        let m = no_minus (minus_of w) (and_right (ltb (exponent_of w) 2047) (not (minus_of w)) small) in
        has_same (of_bits binary64 w) false (units_of w) (2 ^ 1074) (10 ^ k) 1 (pow_pos 1074) (mul-one (units_of w) ∙ is) (rw m at (word_value w l))

-- m / e by n / d, where m = a * e and n = b * d
cross : (m e n d a b : ℕ) → m ≡ a * e → n ≡ b * d → m * d * b ≡ a * (n * e)
cross m e n d a b h g = rw (h, g) (simp (mul_assoc, mul_comm, mul_left_comm))

some : (n b u d : ℕ) → 0 < b → 0 < d → n * u ≡ b * d → n ≡ 0 → ⊥
some n b u d B D e z = let p = mul-pos B D in omega (arith, e, ap (λ (y : ℕ). y * u) z, zero-mul u)

pub div-whole : (x y : Float) (a b : ℕ) → 0 < b → HasValue x false a 1 → HasValue y false b 1 → div binary64 x y ≡ round binary64 false a b
unfolding div
div-whole nan y a b B h g = absurd h
div-whole (inf s) y a b B h g = absurd h
div-whole (fin s m e) nan a b B h g = absurd g
div-whole (fin s m e) (inf t) a b B h g = absurd g
div-whole (fin s m e) (fin t n d) a b B h g =
    let M : m * up e ≡ a * down e = sym (mul-one (m * up e)) ∙ h.1 in
    let N : n * up d ≡ b * down d = sym (mul-one (n * up d)) ∙ g.1 in
    rw (h.0, g.0, ne_eqb n 0 (some n b (up d) (down d) B (down_pos d) N))
    (round_same binary64 false (m * up e * down d) (n * up d * down e) a b (rw N (mul-pos (mul-pos B (down_pos d)) (down_pos e))) B
    (cross (m * up e) (down e) (n * up d) (down d) a b M N))

ten-pos : (k : ℕ) → 0 < 10 ^ k
ten-pos k = pow-le-pow_right {n = 10} (omega arith) (let z : 0 ≤ k = omega arith in z)

pub quotient_is : (w k : ℕ) (y : Float) → w ≤ 9007199254740992 → k < 23 → y ≡ of_bits binary64 (get_or tens k 0)
    → div binary64 (of_int binary64 (pos w)) y ≡ round binary64 false w (10 ^ k)
unfolding of_int
quotient_is w k y l h e =
    rw e
    (div-whole (round binary64 false w 1) (of_bits binary64 (get_or tens k 0)) w (10 ^ k) (ten-pos k) (round_whole binary64 false w l) (ten-value k h))

pub in_float_lem : (w : ℕ) → w ≤ 9007199254740992 → T (in_float binary64 (pos w))
unfolding in_float
in_float_lem w l = le→leb w 9007199254740992 l
