-- The digits behind the point, as the program puts them: a number with a 1 in front of them, printed, and a point put
-- over the 1.
use Rattle.std.specs.Prelude.{ℕ, zero, suc, ◌+◌, ◌*◌, ◌/◌, ◌%◌, ◌^◌, ◌≤◌, ◌<◌, Bool, true, false, not, ◌&&◌, cond}
use Rattle.std.specs.Prelude.{List, [], ◌∷◌, ◌++◌, ◌≡◌, refl, eqb, take, set}
use Rattle.std.proofs.Common.{sym, ap, ◌∙◌, pow-suc, eq-eqb, ne_eqb, eqb-true}
use native.Mathlib.Omega.{arith}
use Rattle.std.proofs.Math.Nat.{pow-le-pow_right}
use Rattle.std.proofs.lemmas.Bool.{eqb-false}
use Rattle.lists.specs.Bytes.{bytes}
use Rattle.lists.specs.Test.{decide}
use Rattle.model_texts.specs.Report.{when}
use Rattle.model_texts.specs.Printed.{last_digit, decimal}
use Rattle.sheet_text.specs.Decimal.{decimal_digit, decimal-more}
use Rattle.model_decimals.specs.Text.{places, trimmed_places, point_text, rounded_text}
use Rattle.decimals.specs.Rounded.{same_test}

-- 10 ^ k and a number below it: a 1, and the number's k digits
pub after_one : (k n : ℕ) → n < 10 ^ k → k ≤ 18 → decimal (10 ^ k + n) ≡ 49 ∷ places k n
unfolding places
after_one zero n h l = let e : n ≡ 0 = omega arith in rw e (decimal_digit 1 (omega arith))
after_one (suc k) n h l =
    let p = pow-suc 10 k in
    let m : 10 ^ suc k ≤ 10 ^ 18 = pow-le-pow_right {n = 10} (omega arith) l in
    let one : 1 ≤ 10 ^ k = pow-le-pow_right {n = 10} (omega arith) (let z : 0 ≤ k = omega arith in z) in
    let q : (10 ^ suc k + n) / 10 ≡ 10 ^ k + n / 10 = omega arith in
    let r : last_digit (10 ^ suc k + n) ≡ last_digit n = omega arith in
    decimal-more (10 ^ suc k + n) (omega arith) (omega arith)
    ∙ (ap (λ (z : ℕ). decimal z ++ (last_digit (10 ^ suc k + n) ∷ [])) q
    ∙ (ap (λ (z : ℕ). decimal (10 ^ k + n / 10) ++ (z ∷ [])) r
    ∙ ap (λ (z : List ℕ). z ++ (last_digit n ∷ [])) (after_one k (n / 10) (omega arith) (omega arith))))

trimmed-zero : (k n : ℕ) → n % 10 ≡ 0 → trimmed_places (suc k) n ≡ trimmed_places k (n / 10)
unfolding trimmed_places
trimmed-zero k n e = rw (eq-eqb (n % 10) 0 e)

trimmed-some : (k n : ℕ) → (n % 10 ≡ 0 → ⊥) → trimmed_places (suc k) n ≡ places (suc k) n
unfolding trimmed_places
trimmed-some k n e = rw (ne_eqb (n % 10) 0 e)

-- m is a 1 and, behind it, the nine digits of `part` with some of the zeros at their end dropped
pub record Trim (part m : ℕ) : Type 0 where
  pub k : ℕ
  pub n : ℕ
  pub is : m ≡ 10 ^ k + n
  pub some : 0 < n
  pub less : n < 10 ^ k
  pub most : k ≤ 9
  pub same : trimmed_places 9 part ≡ trimmed_places k n

pub trim-none : (part : ℕ) → 0 < part → part < 1000000000 → Trim part (1000000000 + part)
trim-none part h l = record { k = 9; n = part; is = refl; some = h; less = l; most = omega arith; same = refl }

pub trim-pos : {part m : ℕ} → Trim part m → 0 < m
trim-pos t = omega (arith, t.is, t.some)

module _ (part m : ℕ) where
  pub trim-more : Trim part m → m % 10 ≡ 0 → Trim part (m / 10)
  trim-more t z = go t.k t.n t.is t.some t.less t.most t.same
    where
      go : (k n : ℕ) → m ≡ 10 ^ k + n → 0 < n → n < 10 ^ k → k ≤ 9 → trimmed_places 9 part ≡ trimmed_places k n → Trim part (m / 10)
      go zero n is some less most same = absurd (omega arith)
      go (suc k) n is some less most same =
          let p = pow-suc 10 k in
          let y : n % 10 ≡ 0 = omega arith in
          record { k = k; n = n / 10; is = omega arith; some = omega arith; less = omega arith; most = omega arith; same = same ∙ trimmed-zero k n y }

  pub trim_end : Trim part m → (m % 10 ≡ 0 → ⊥) → decimal m ≡ 49 ∷ trimmed_places 9 part
  trim_end t z = go t.k t.n t.is t.some t.less t.most t.same
    where
      go : (k n : ℕ) → m ≡ 10 ^ k + n → 0 < n → n < 10 ^ k → k ≤ 9 → trimmed_places 9 part ≡ trimmed_places k n → decimal m ≡ 49 ∷ trimmed_places 9 part
      go zero n is some less most same = absurd (omega arith)
      go (suc k) n is some less most same =
          let p = pow-suc 10 k in
          ap decimal is ∙ (after_one (suc k) n less (omega arith) ∙ ap (λ (l : List ℕ). 49 ∷ l) (sym (same ∙ trimmed-some k n (λ e. z (omega arith)))))

-- a point over the 1
pub dotted : (n : ℕ) (new xs : List ℕ) → take n new ≡ 49 ∷ xs → take n (set new 0 46) ≡ 46 ∷ xs
dotted zero new xs e = absurd (let z : ◌≡◌ {A = ℕ} 0 1 = cc in omega arith)
dotted (suc n) [] xs e = absurd (let z : ◌≡◌ {A = ℕ} 0 1 = cc in omega arith)
dotted (suc n) (y ∷ new) xs e = ap (λ (l : List ℕ). 46 ∷ l) (cc)

pub point-none : (n : ℕ) → n ≡ 0 → point_text n ≡ []
unfolding point_text
point-none n e = rw (eq-eqb n 0 e)

pub point-some : (n : ℕ) → (n ≡ 0 → ⊥) → point_text n ≡ 46 ∷ trimmed_places 9 n
unfolding point_text
point-some n e = rw (ne_eqb n 0 e)

-- ---- the text of a whole number and a part of a number, exact or not
none_is : (w p : ℕ) → p < 1000000000 → eqb (w * 1000000000 + p) 0 ≡ (eqb w 0 && eqb p 0)
none_is w p l =
    decide (eqb w 0)
    (λ t. let t' = eqb-true w 0 t in rw t (same_test (w * 1000000000 + p) 0 p 0 (λ e. omega arith) (λ e. omega arith)))
    (λ t. let t' = eqb-false w 0 t in rw t (ne_eqb (w * 1000000000 + p) 0 (λ e. omega arith)))

module _ (s exact : Bool) (w p : ℕ) (l : p < 1000000000) where
  pub text-none : (not exact && (eqb w 0 && eqb p 0)) ≡ true → rounded_text s (w * 1000000000 + p) exact ≡ cond s (bytes ">-0.000000001") (bytes "<0.000000001")
  unfolding rounded_text
  text-none e = rw (none_is w p l, e)

  pub text-some : (not exact && (eqb w 0 && eqb p 0)) ≡ false
      → rounded_text s (w * 1000000000 + p) exact ≡ when (not exact) (bytes "~") ++ (when s (bytes "-") ++ (decimal w ++ point_text p))
  unfolding rounded_text
  text-some e =
      let q : (w * 1000000000 + p) / 1000000000 ≡ w = omega arith in
      let r : (w * 1000000000 + p) % 1000000000 ≡ p = omega arith in
      rw (none_is w p l, e, q, r)
