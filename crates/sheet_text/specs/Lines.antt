-- The loops over the digits of a line: one that looks at them, one that takes them up into a word.
use Prim.Native.Nat.{ℕ, zero, suc, ◌+◌, ◌-◌, ◌*◌, ◌^◌, ◌≤◌, ◌<◌}
use Rattle.std.specs.Prelude.{Bool, true, false, ◌&&◌, List, ◌≡◌, leb, eqb}
use Rattle.std.proofs.Math.Path.{sym}
use Rattle.std.proofs.Common.{ap, ◌∙◌, leb-true}
use native.Mathlib.Omega.{arith}
use Rattle.std.proofs.Math.Nat.{pow-suc, pow-le-pow_right}
use Rattle.lists.specs.Every.{Passing, passing-more, passing-stop, passing_end}
use Rattle.lists.specs.Test.{decide, and_right}
use Rattle.lists.specs.Walk.{walk, walk_more, Walked, walked_none, walked_more, walked_end}
use Rattle.model_texts.specs.Hex.{is_digit, digit_of, byte_at, digit_at, is_line, push_digit, word_at}

-- the loop that looks at the digits
module _ (t : List ℕ) {p k : ℕ} (d : Passing (digit_at t) 16 p k) where
  module _ {b : ℕ} {g : Bool} (l : k < 16) (eb : b ≡ byte_at t (p + k)) (eg : g ≡ is_digit b) where
    seen : digit_at t (p + k) ≡ g
    seen = sym (eg ∙ ap is_digit eb)

    pub digits_more : g ≡ true → Passing (digit_at t) 16 p (k + 1)
    digits_more h = passing-more d l (seen ∙ h)

    pub digits-stop : g ≡ false → false ≡ is_line t p
    unfolding is_line
    digits-stop h = sym (rw (passing-stop d l (seen ∙ h)))

  pub digits_end : {b : ℕ} → 16 ≤ k → b ≡ byte_at t (p + 16) → eqb b 10 ≡ is_line t p
  unfolding is_line
  digits_end {b} l e = rw (passing_end d l, e)

pub digit-small : (b : ℕ) → digit_of b < 16
unfolding digit_of
digit-small b =
    decide (leb 48 b && leb b 57)
    (λ t. rw t (omega (arith, leb-true b 57 (and_right (leb 48 b) (leb b 57) t))))
    (λ t. rw t
    (decide (leb 97 b && leb b 102)
    (λ s. rw s (omega (arith, leb-true b 102 (and_right (leb 97 b) (leb b 102) s))))
    (λ s. rw s (omega arith))))

module _ (t : List ℕ) where
  -- n digits make a number below 16 ^ n
  small-walk : (n p : ℕ) → walk (push_digit t) n p 0 < 16 ^ n
  unfolding walk
  small-walk zero p = omega arith
  small-walk (suc n) p = rw (walk_more (push_digit t) n p 0, pow-suc 16 n) (omega (arith, small-walk n p, digit-small (byte_at t (p + n))))

-- the word of the digits from p up to k
pub record Taking (t : List ℕ) (p k w : ℕ) : Type 0 where
  pub most : k ≤ p + 16
  pub walked : Walked (push_digit t) p k 0 w

pub taking-none : (t : List ℕ) (p : ℕ) → Taking t p p 0
taking-none t p = record { most = omega arith; walked = walked_none (push_digit t) p 0 }

module _ {t : List ℕ} {p k w : ℕ} (r : Taking t p k w) where
  -- there is room for one more
  pub taking-small : k < p + 16 → w < 1152921504606846976
  taking-small l =
      let e : k - p ≤ 15 = omega (arith, r.walked.from) in
      let m : 16 ^ (k - p) ≤ 16 ^ 15 = pow-le-pow_right {n = 16} (omega arith) e in
      rw r.walked.is (omega (arith, small-walk t (k - p) p, m))

  pub taking-more : {b d : ℕ} → k < p + 16 → b ≡ byte_at t k → d ≡ digit_of b → Taking t p (k + 1) (16 * w + d)
  taking-more l e f = record { most = omega arith; walked = walked_more r.walked (ap (λ (x : ℕ). 16 * w + x) (f ∙ ap digit_of e)) }

  pub taking_end : p + 16 ≤ k → w ≡ word_at t p
  unfolding word_at
  taking_end l = walked_end 16 r.walked (omega (arith, r.most))
