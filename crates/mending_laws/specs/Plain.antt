-- A line as `recipe` reads it is one as mending reads it, with the same word; and its word's digits are those that
-- stand there.
use Prim.Native.Nat.{ℕ, zero, suc, ◌+◌, ◌-◌, ◌*◌, ◌/◌, ◌%◌, ◌^◌, ◌≤◌, ◌<◌}
use Rattle.std.specs.Prelude.{true, false, ◌&&◌, List, ◌≡◌, leb, ltb}
use Rattle.std.proofs.Common.{sym, ◌∙◌, div-one, shr-shr}
use Rattle.std.proofs.Math.Path.{ap}
use native.Mathlib.Omega.{arith}
use borrow.Author.Tests.{leb-true, le-leb, lt-leb, lt-ltb, le-ltb, ltb-true, ltb-false, eqb-true, eq-eqb, ne_eqb}
use Rattle.lists.specs.Every.{every, every-same}
use Rattle.lists.specs.Test.{decide, and_left, and_right, or_right}
use Rattle.lists.specs.Walk.{walk, walk_more, walk_same}
use Rattle.model_texts.specs.Hex.{is_digit, digit_of, digit_for, byte_at, digit_at, is_line, push_digit, word_at, hex_digit}
use Rattle.sheet_text.specs.Lines.{digit-small}
use Rattle.model_mending.specs.Lines.{lowered, low, end_at, is_old_line, line_at}
use Rattle.mending.specs.Lines.{low_byte}
use Rattle.mending.specs.Headers.{every-at}
use Rattle.mending.specs.Reading.{no_true}

-- ---- digits

lower-digit : (b : ℕ) → is_digit b ≡ true → lowered b ≡ b
unfolding is_digit lowered
lower-digit b h =
    decide (leb 65 b && leb b 70)
    (λ e.
    let l = leb-true 65 b (and_left (leb 65 b) (leb b 70) e) in
    let m = leb-true b 70 (and_right (leb 65 b) (leb b 70) e) in
    let f : is_digit b ≡ false = rw (le-leb 48 b (omega arith), lt-leb b 57 (omega arith), lt-leb 97 b (omega arith)) in
    no_true (sym f ∙ h))
    (λ e. rw e)

digit-back : (b : ℕ) → is_digit b ≡ true → digit_for (digit_of b) ≡ b
unfolding is_digit digit_of digit_for
digit-back b h =
    decide (leb 48 b && leb b 57)
    (λ e.
    let l = leb-true 48 b (and_left (leb 48 b) (leb b 57) e) in
    let m = leb-true b 57 (and_right (leb 48 b) (leb b 57) e) in
    rw (e, lt-ltb (b - 48) 10 (omega arith)) (omega arith))
    (λ e.
    let d : (leb 97 b && leb b 102) ≡ true = or_right (leb 48 b && leb b 57) (leb 97 b && leb b 102) h e in
    let l = leb-true 97 b (and_left (leb 97 b) (leb b 102) d) in
    let m = leb-true b 102 (and_right (leb 97 b) (leb b 102) d) in
    rw (e, d, le-ltb (b - 87) 10 (omega arith)) (omega arith))

module _ (t : List ℕ) (p : ℕ) where
  -- digit number j of n
  word-digit : (n j : ℕ) → j < n → walk (push_digit t) n p 0 / 2 ^ (4 * (n - 1 - j)) % 16 ≡ digit_of (byte_at t (p + j))
  word-digit zero j l = absurd (omega arith)
  word-digit (suc n) j l =
      let w : ℕ = walk (push_digit t) n p 0 in
      let d : ℕ = digit_of (byte_at t (p + n)) in
      let x : ℕ = 16 * w + d in
      let s : d < 16 = digit-small (byte_at t (p + n)) in
      let m : walk (push_digit t) (suc n) p 0 ≡ x = walk_more (push_digit t) n p 0 in
      decide (ltb j n)
      (λ a.
      let b = ltb-true j n a in
      let e : 4 * (suc n - 1 - j) ≡ 4 + 4 * (n - 1 - j) = omega arith in
      let q : x / 2 ^ 4 ≡ w = omega arith in
      ap (λ (y : ℕ). y / 2 ^ (4 * (suc n - 1 - j)) % 16) m
      ∙ (ap (λ (k : ℕ). x / 2 ^ k % 16) e
      ∙ (ap (λ (y : ℕ). y % 16) (sym (shr-shr x 4 (4 * (n - 1 - j))))
      ∙ (ap (λ (y : ℕ). y / 2 ^ (4 * (n - 1 - j)) % 16) q ∙ word-digit n j b))))
      (λ a.
      let b = ltb-false j n a in
      let i : n ≡ j = omega arith in
      let e : 4 * (suc n - 1 - j) ≡ 0 = omega arith in
      let r : x % 16 ≡ d = omega arith in
      let q : x / 2 ^ 0 % 16 ≡ d = ap (λ (y : ℕ). y % 16) (div-one x) ∙ r in
      ap (λ (y : ℕ). y / 2 ^ (4 * (suc n - 1 - j)) % 16) m
      ∙ (ap (λ (k : ℕ). x / 2 ^ k % 16) e ∙ (q ∙ ap (λ (k : ℕ). digit_of (byte_at t (p + k))) i)))

  module _ (h : is_line t p ≡ true) where
    digit_at_lem : (q : ℕ) → p ≤ q → q < p + 16 → digit_at t q ≡ true
    unfolding is_line
    digit_at_lem q a b = every-at (digit_at t) 16 p (and_left (every (digit_at t) 16 p) _ h) q a b

    pub end_is : byte_at t (p + 16) ≡ 10
    unfolding is_line
    end_is = eqb-true _ _ (and_right (every (digit_at t) 16 p) _ h)

    pub digit-is : (j : ℕ) → j < 16 → hex_digit (word_at t p) j ≡ byte_at t (p + j)
    unfolding word_at
    digit-is j l =
        let e : 60 - 4 * j ≡ 4 * (16 - 1 - j) = omega arith in
        ap digit_for (ap (λ (k : ℕ). walk (push_digit t) 16 p 0 / 2 ^ k % 16) e ∙ word-digit 16 j l)
        ∙ digit-back (byte_at t (p + j)) (digit_at_lem (p + j) (omega arith) (omega arith))

    low_same : (q : ℕ) → p ≤ q → q < p + 16 → byte_at (low t) q ≡ byte_at t q
    low_same q a b = low_byte t q ∙ lower-digit (byte_at t q) (digit_at_lem q a b)

    pub end-plain : end_at t p ≡ p + 16
    unfolding end_at
    end-plain = rw (ne_eqb (byte_at t (p + 16)) 13 (λ e. omega (arith, end_is, e)))

    digits-plain : every (digit_at (low t)) 16 p ≡ true
    unfolding is_line
    digits-plain =
        every-same (digit_at (low t)) (digit_at t) 16 p (λ q a b. ap is_digit (low_same q a b)) ∙ and_left (every (digit_at t) 16 p) _ h

    pub old-plain : is_old_line t p ≡ true
    unfolding is_old_line
    old-plain = rw (digits-plain, end-plain, eq-eqb (byte_at t (p + 16)) 10 end_is)

    pub word-plain : word_at (low t) p ≡ word_at t p
    unfolding word_at
    word-plain =
        walk_same (push_digit (low t)) (push_digit t) 16 p 0 (λ q a b w. ap (λ (x : ℕ). 16 * w + digit_of x) (low_same q a b))

-- lines of 17 bytes
module _ (t : List ℕ) (n : ℕ) (h : (k : ℕ) → k < n → is_line t (17 * k) ≡ true) where
  pub place-plain : (k : ℕ) → k ≤ n → line_at t k ≡ 17 * k
  unfolding line_at
  place-plain zero l = omega arith
  place-plain (suc k) l =
      ap (λ (p : ℕ). end_at t p + 1) (place-plain k (omega arith))
      ∙ (ap (λ (p : ℕ). p + 1) (end-plain t (17 * k) (h k (omega arith))) ∙ omega arith)
