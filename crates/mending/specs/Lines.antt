-- The loops over the digits of an old line and over the lines of an old sheet.
use Prim.Native.Nat.{ℕ, zero, suc, ◌+◌, ◌*◌, ◌≤◌, ◌<◌}
use Rattle.std.specs.Prelude.{Bool, true, false, List, ◌≡◌, refl, eqb}
use Rattle.std.proofs.Math.Path.{sym}
use Rattle.std.proofs.Common.{ap, ◌∙◌, add-one, add-zero}
use native.Mathlib.Omega.{arith}
use Rattle.std.proofs.Math.ListN.{get_or-map}
use Rattle.lists.specs.Every.{every, Passing, passing-none, passing-more, passing-stop, passing_end}
use Rattle.lists.specs.Test.{decide}
use Rattle.model_texts.specs.Hex.{is_digit, byte_at, digit_at}
use Rattle.model_mending.specs.Lines.{lowered, low, end_at, is_old_line, line_at, old_lined}

pub low_byte : (t : List ℕ) (p : ℕ) → byte_at (low t) p ≡ lowered (byte_at t p)
unfolding low lowered
low_byte t p = get_or-map lowered t p 0

-- the loop that looks at the digits
module _ (t : List ℕ) {p k : ℕ} (d : Passing (digit_at (low t)) 16 p k) where
  module _ {b : ℕ} {g : Bool} (l : k < 16) (eb : b ≡ byte_at (low t) (p + k)) (eg : g ≡ is_digit b) where
    seen : digit_at (low t) (p + k) ≡ g
    seen = sym (eg ∙ ap is_digit eb)

    pub old-more : g ≡ true → Passing (digit_at (low t)) 16 p (k + 1)
    old-more h = passing-more d l (seen ∙ h)

    pub old-stop : g ≡ false → false ≡ is_old_line t p
    unfolding is_old_line
    old-stop h = sym (rw (passing-stop d l (seen ∙ h)))

  pub old_end : {e b : ℕ} → 16 ≤ k → e ≡ end_at t p → b ≡ byte_at t e → eqb b 10 ≡ is_old_line t p
  unfolding is_old_line
  old_end {e} {b} l ee eb = rw (passing_end d l, ← ee, eb)

-- where lines begin
module _ (t : List ℕ) where
  pub end-most : (p : ℕ) → end_at t p ≤ p + 17
  unfolding end_at
  end-most p = decide (eqb (byte_at t (p + 16)) 13) (λ e. rw e (omega arith)) (λ e. rw e (omega arith))

  pub line-most : (k : ℕ) → line_at t k ≤ 18 * k
  unfolding line_at
  line-most zero = omega arith
  line-most (suc k) = omega (arith, line-most k, end-most (line_at t k))

  pub line-next : (k : ℕ) → line_at t (k + 1) ≡ end_at t (line_at t k) + 1
  unfolding line_at
  line-next k = rw (add-one k)

-- the loop that goes from line to line has come to the line k of n
pub record Going (t : List ℕ) (n k at : ℕ) : Type 0 where
  pub most : k ≤ n
  pub is : at ≡ line_at t k

pub going-none : (t : List ℕ) (n : ℕ) → Going t n 0 0
unfolding line_at
going-none t n = record { most = omega arith; is = refl }

module _ {t : List ℕ} {n k at : ℕ} (g : Going t n k at) where
  pub going-small : at ≤ 18 * n
  going-small = omega (arith, g.is, g.most, line-most t k)

  pub going_more : {e : ℕ} → k < n → e ≡ end_at t at → Going t n (k + 1) (e + 1)
  going_more {e} l ee = record { most = omega arith; is = ap (λ (x : ℕ). x + 1) (ee ∙ ap (end_at t) g.is) ∙ sym (line-next t k) }

  pub going_end : n ≤ k → at ≡ line_at t n
  going_end l = let e : k ≡ n = omega (arith, g.most) in g.is ∙ ap (line_at t) e

-- the loop that looks whether n lines stand from the line `from` on has come k lines further
pub record Lining (t : List ℕ) (n from k at : ℕ) : Type 0 where
  pub passing : Passing (old_lined t) n from k
  pub is : at ≡ line_at t (from + k)

pub lining-none : (t : List ℕ) (n from : ℕ) {at : ℕ} → at ≡ line_at t from → Lining t n from 0 at
lining-none t n from e = record { passing = passing-none _ _ _; is = rw (add-zero from) e }

module _ {t : List ℕ} {n from k at : ℕ} (g : Lining t n from k at) where
  pub lining-small : at ≤ 18 * (from + n)
  lining-small = omega (arith, g.is, g.passing.most, line-most t (from + k))

  module _ (l : k < n) {b : Bool} (eb : b ≡ is_old_line t at) where
    tested : old_lined t (from + k) ≡ b
    tested = sym (eb ∙ ap (is_old_line t) g.is)

    pub lining-stop : b ≡ false → false ≡ every (old_lined t) n from
    lining-stop f = sym (passing-stop g.passing l (tested ∙ f))

    pub lining-more : {e : ℕ} → b ≡ true → e ≡ end_at t at → Lining t n from (k + 1) (e + 1)
    lining-more {e} f ee =
        let q : from + k + 1 ≡ from + (k + 1) = omega arith in
        record {
          passing = passing-more g.passing l (tested ∙ f);
          is = ap (λ (x : ℕ). x + 1) (ee ∙ ap (end_at t) g.is) ∙ (sym (line-next t (from + k)) ∙ ap (line_at t) q);
        }

  pub lining_end : n ≤ k → true ≡ every (old_lined t) n from
  lining_end l = sym (passing_end g.passing l)
