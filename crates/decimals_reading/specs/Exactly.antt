-- The reader takes exactly what the definition takes: from each stage, what it says of the rest of a text.
use Rattle.std.specs.Prelude.{Some, None, ℕ, suc, ◌+◌, ◌-◌, ◌*◌, ◌^◌, ◌≤◌, ◌<◌, Bool, true, false, not, ◌&&◌, ◌||◌, cond, List}
use Rattle.std.specs.Prelude.{[], ◌∷◌, ◌++◌, ◌≡◌, refl, leb, ltb, eqb, length, Float}
use Rattle.std.proofs.Common.{true≢false, sym, ap, ◌∙◌, arith, eqb-true, leb-true, leb-false, le-leb, lt-ltb, le-ltb}
use Rattle.std.specs.Float.{binary64}
use Rattle.std.specs.Float.Ieee.{round}
use Rattle.std.proofs.lemmas.Bool.{lt-leb}
use Rattle.lists.specs.Test.{decide, and_left, and_right}
use Rattle.model_decimals.specs.Results.{Read}
use Rattle.model_decimals.specs.Typed.{before, has_point, behind, is_digit, all_digits, some_digits, significant, digits_value, is_typed, read_text}
use Rattle.decimals_reading.specs.declared.scanning.Scan.{Scan}
use Rattle.decimals_reading.specs.Scanned.{at, none, pushed, scanned, said, Scanning, scanning_end}
use Rattle.decimals_reading.specs.Significant.{value-least, digit-most, significant-few}

-- ---- one byte
push-whole : (g n b : ℕ) → g < 2 → is_digit b ≡ true → n < 100000000000000 → pushed (at g n 0) b ≡ at 1 (10 * n + (b - 48)) 0
unfolding pushed
push-whole g n b l d h = rw (d, lt-leb 100000000000000 n h, lt-ltb g 2 l)

push-part : (g n p b : ℕ) → 2 ≤ g → g < 4 → is_digit b ≡ true → n < 100000000000000 → p < 22
    → pushed (at g n p) b ≡ at 3 (10 * n + (b - 48)) (p + 1)
unfolding pushed
push-part g n p b l k d h m = rw (d, lt-leb 100000000000000 n h, le-ltb g 2 l, lt-ltb g 4 k, lt-ltb p 22 m)

-- a digit too many
push-many : (g n p b : ℕ) → is_digit b ≡ true → 100000000000000 ≤ n → pushed (at g n p) b ≡ none
unfolding pushed
push-many g n p b d h = rw (d, le-leb 100000000000000 n h)

push_deep : (n p b : ℕ) → is_digit b ≡ true → n < 100000000000000 → 22 ≤ p → pushed (at 3 n p) b ≡ none
unfolding pushed
push_deep n p b d h m = rw (d, lt-leb 100000000000000 n h, le-ltb p 22 m)

-- no digit and no point; no digit where no point may stand
push-other : (s : Scan) (b : ℕ) → is_digit b ≡ false → eqb b 46 ≡ false → pushed s b ≡ none
unfolding pushed
push-other s b d e = rw (d, e)

push_late : (s : Scan) (b : ℕ) → is_digit b ≡ false → eqb s.stage 1 ≡ false → pushed s b ≡ none
unfolding pushed
push_late s b d e = decide (eqb b 46) (λ t. rw (d, t, e)) (λ t. rw (d, t))

push-none : (b : ℕ) → pushed none b ≡ none
unfolding pushed
push-none b = decide (is_digit b) (λ d. rw d) (λ d. decide (eqb b 46) (λ t. rw (d, t)) (λ t. rw (d, t)))

scanned-none : (t : List ℕ) → scanned none t ≡ none
unfolding scanned
scanned-none [] = refl
scanned-none (b ∷ t) = ap (λ (s : Scan). scanned s t) (push-none b) ∙ scanned-none t

refuses : (t : List ℕ) (s : Scan) → s ≡ none → said (scanned s t) ≡ None
refuses t s e = ap (λ (y : Scan). said (scanned y t)) e ∙ ap said (scanned-none t)

fails : (t : List ℕ) (s : Scan) (c : Bool) (r : Read) → s ≡ none → c ≡ false → said (scanned s t) ≡ cond c r None
fails t s c r e f = rw f (refuses t s e)

-- and where the byte b is taken, as s
goes_on : (t : List ℕ) (s r : Scan) {x : Read} → s ≡ r → said (scanned r t) ≡ x → said (scanned s t) ≡ x
goes_on t s r e h = ap (λ (y : Scan). said (scanned y t)) e ∙ h

and_no : (a : Bool) {b : Bool} → b ≡ false → (a && b) ≡ false
and_no true e = e
and_no false e = refl

-- ---- what is asked of digits behind the number n
abbrev below : ℕ → List ℕ → Bool
below n t = ltb (digits_value n t) 1000000000000000

-- the number v with j digits behind the point, where the test c is passed
abbrev answer : Bool → ℕ → ℕ → Read
answer c v j = cond c (Some (round binary64 false v (10 ^ j))) None

module _ (t : List ℕ) (n b : ℕ) (h : 100000000000000 ≤ n) where
  too_large : below (10 * n + (b - 48)) t ≡ false
  too_large = le-ltb (digits_value (10 * n + (b - 48)) t) 1000000000000000 (omega (arith, value-least t (10 * n + (b - 48))))

  too_many : (a : Bool) → (below (10 * n + (b - 48)) t && a) ≡ false
  too_many a = ap (λ (x : Bool). x && a) too_large

next_small : (n b : ℕ) → n < 100000000000000 → is_digit b ≡ true → 10 * n + (b - 48) < 1000000000000000
next_small n b h d = let k = digit-most b d in omega (arith, k.0, k.1)

-- behind the point, p digits of it gone
abbrev part_ok : ℕ → ℕ → List ℕ → Bool
part_ok n j t = all_digits t && (below n t && leb j 22)

said-part : (t : List ℕ) (n p : ℕ) → n < 1000000000000000 → p ≤ 22
    → said (scanned (at 3 n p) t) ≡ answer (part_ok n (p + length t) t) (digits_value n t) (p + length t)
unfolding scanned digits_value all_digits
said-part [] n p h l =
    let e : p + 0 ≡ p = omega arith in
    rw (e, lt-ltb n 1000000000000000 h, le-leb p 22 l)
said-part (b ∷ t) n p h l =
    decide (is_digit b)
    (λ d.
    decide (leb 100000000000000 n)
    (λ m.
    let m' = leb-true 100000000000000 n m in
    fails t (pushed (at 3 n p) b) _ _ (push-many 3 n p b d m') (and_no (is_digit b && all_digits t) (too_many t n b m' (leb (p + suc (length t)) 22))))
    (λ m.
    let m' = leb-false 100000000000000 n m in
    decide (leb 22 p)
    (λ q.
    let q' = leb-true 22 p q in
    fails t (pushed (at 3 n p) b) _ _ (push_deep n p b d m' q')
    (and_no (is_digit b && all_digits t) (and_no (below (10 * n + (b - 48)) t) (lt-leb (p + suc (length t)) 22 (omega arith)))))
    (λ q.
    let q' = leb-false 22 p q in
    let e : p + 1 + length t ≡ p + suc (length t) = omega arith in
    rw d
    (goes_on t (pushed (at 3 n p) b) (at 3 (10 * n + (b - 48)) (p + 1)) (push-part 3 n p b (omega arith) (omega arith) d m' q')
    (said-part t (10 * n + (b - 48)) (p + 1) (next_small n b m' d) (omega arith)
    ∙ ap (λ (j : ℕ). answer (part_ok (10 * n + (b - 48)) j t) (digits_value (10 * n + (b - 48)) t) j) e)))))
    (λ d. rw d (refuses t (pushed (at 3 n p) b) (push_late (at 3 n p) b d refl)))

-- right behind it
abbrev point_read : ℕ → List ℕ → Read
point_read n t = answer (some_digits t && (below n t && leb (length t) 22)) (digits_value n t) (length t)

said-point : (t : List ℕ) (n : ℕ) → n < 1000000000000000 → said (scanned (at 2 n 0) t) ≡ point_read n t
unfolding scanned digits_value all_digits some_digits
said-point [] n h = refl
said-point (b ∷ t) n h =
    decide (is_digit b)
    (λ d.
    decide (leb 100000000000000 n)
    (λ m.
    let m' = leb-true 100000000000000 n m in
    fails t (pushed (at 2 n 0) b) _ _ (push-many 2 n 0 b d m') (and_no (is_digit b && all_digits t) (too_many t n b m' (leb (suc (length t)) 22))))
    (λ m.
    let m' = leb-false 100000000000000 n m in
    let e : 0 + 1 + length t ≡ suc (length t) = omega arith in
    rw d
    (goes_on t (pushed (at 2 n 0) b) (at 3 (10 * n + (b - 48)) (0 + 1)) (push-part 2 n 0 b (omega arith) (omega arith) d m' (omega arith))
    (said-part t (10 * n + (b - 48)) (0 + 1) (next_small n b m' d) (omega arith)
    ∙ ap (λ (j : ℕ). answer (part_ok (10 * n + (b - 48)) j t) (digits_value (10 * n + (b - 48)) t) j) e))))
    (λ d. rw d (refuses t (pushed (at 2 n 0) b) (push_late (at 2 n 0) b d refl)))

-- ---- digits seen, no point yet
abbrev digits_in : List ℕ → List ℕ
digits_in t = before t ++ behind t

abbrev point_ok : List ℕ → Bool
point_ok t = not (has_point t) || some_digits (behind t)

abbrev rest_ok : ℕ → List ℕ → Bool
rest_ok n t = point_ok t && (below n (digits_in t) && leb (length (behind t)) 22)

abbrev whole_read : Bool → ℕ → List ℕ → Read
whole_read c n t = answer (c && rest_ok n t) (digits_value n (digits_in t)) (length (behind t))

push-point : (n : ℕ) → pushed (at 1 n 0) 46 ≡ at 2 n 0
unfolding pushed
push-point n = refl

said-whole : (t : List ℕ) (n : ℕ) → n < 1000000000000000 → said (scanned (at 1 n 0) t) ≡ whole_read (all_digits (before t)) n t
unfolding scanned digits_value all_digits before has_point behind
said-whole [] n h = rw (lt-ltb n 1000000000000000 h)
said-whole (b ∷ t) n h =
    decide (eqb b 46)
    (λ p. rw (eqb-true b 46 p) (goes_on t (pushed (at 1 n 0) 46) (at 2 n 0) (push-point n) (said-point t n h)))
    (λ p.
    decide (is_digit b)
    (λ d.
    decide (leb 100000000000000 n)
    (λ m.
    let m' = leb-true 100000000000000 n m in
    rw p
    (fails t (pushed (at 1 n 0) b) _ _ (push-many 1 n 0 b d m')
    (and_no (is_digit b && all_digits (before t)) (and_no (point_ok t) (too_many (digits_in t) n b m' (leb (length (behind t)) 22))))))
    (λ m.
    let m' = leb-false 100000000000000 n m in
    rw (p, d)
    (goes_on t (pushed (at 1 n 0) b) (at 1 (10 * n + (b - 48)) 0) (push-whole 1 n b (omega arith) d m')
    (said-whole t (10 * n + (b - 48)) (next_small n b m' d)))))
    (λ d. rw (p, d) (refuses t (pushed (at 1 n 0) b) (push-other (at 1 n 0) b d p))))

-- ---- nothing seen
said-start : (t : List ℕ) → said (scanned (at 0 0 0) t) ≡ whole_read (some_digits (before t)) 0 t
unfolding scanned digits_value all_digits some_digits before has_point behind
said-start [] = refl
said-start (b ∷ t) =
    decide (eqb b 46)
    (λ p. rw (eqb-true b 46 p) (refuses t (pushed (at 0 0 0) 46) (push_late (at 0 0 0) 46 refl refl)))
    (λ p.
    decide (is_digit b)
    (λ d.
    rw (p, d)
    (goes_on t (pushed (at 0 0 0) b) (at 1 (10 * 0 + (b - 48)) 0) (push-whole 0 0 b (omega arith) d (omega arith))
    (said-whole t (10 * 0 + (b - 48)) (next_small 0 b (omega arith) d))))
    (λ d. rw (p, d) (refuses t (pushed (at 0 0 0) b) (push-other (at 0 0 0) b d p))))

-- ---- as the definition has it
pub no-point-behind : (t : List ℕ) → has_point t ≡ false → behind t ≡ []
unfolding has_point behind
no-point-behind [] h = refl
no-point-behind (b ∷ t) h = decide (eqb b 46) (λ p. absurd (true≢false (rw p at h))) (λ p. rw p (no-point-behind t (rw p at h)))

pub digits_append : (t u : List ℕ) → all_digits t ≡ true → all_digits u ≡ true → all_digits (t ++ u) ≡ true
unfolding all_digits
digits_append [] u d e = e
digits_append (b ∷ t) u d e = rw (and_left (is_digit b) (all_digits t) d) (digits_append t u (and_right (is_digit b) (all_digits t) d) e)

pub some-all : (t : List ℕ) → some_digits t ≡ true → all_digits t ≡ true
unfolding some_digits
some-all [] h = absurd (true≢false (sym h))
some-all (b ∷ t) h = h

pub behind-digits : (t : List ℕ) → (not (has_point t) || some_digits (behind t)) ≡ true → all_digits (behind t) ≡ true
unfolding all_digits
behind-digits t h = decide (has_point t) (λ p. some-all (behind t) (rw p at h)) (λ p. rw (no-point-behind t p))

same_tests : (a c d e f : Bool) → (a ≡ true → c ≡ true → d ≡ e) → (a && (c && (d && f))) ≡ ((a && c) && (e && f))
same_tests false c d e f h = refl
same_tests true false d e f h = refl
same_tests true true d e f h = ap (λ (x : Bool). x && f) (h refl refl)

start_typed : (t : List ℕ) → (some_digits (before t) && rest_ok 0 t) ≡ is_typed t
unfolding is_typed
start_typed t =
    same_tests (some_digits (before t)) (point_ok t) (below 0 (digits_in t)) (leb (length (significant (digits_in t))) 15) (leb (length (behind t)) 22)
    (λ d p. significant-few (digits_in t) (digits_append (before t) (behind t) (some-all (before t) d) (behind-digits t p)))

pub scanned-reads : (t : List ℕ) → said (scanned (at 0 0 0) t) ≡ read_text t
unfolding read_text
scanned-reads t = said-start t ∙ ap (λ (c : Bool). answer c (digits_value 0 (digits_in t)) (length (behind t))) (start_typed t)

-- ---- at the loop's end
module _ (text : List ℕ) {s : Scan} {k : ℕ} (c : Scanning text s k) (l : length text ≤ k) where
  ended : read_text text ≡ said s
  ended = sym (scanned-reads text) ∙ scanning_end text c l

  pub read_number : {x : Float} → (eqb s.stage 1 || eqb s.stage 3) ≡ true → x ≡ round binary64 false s.size (10 ^ s.places) → Some x ≡ read_text text
  read_number {x} t e = rw (ended, t, e)

  pub read-refused : (eqb s.stage 1 || eqb s.stage 3) ≡ false → None ≡ read_text text
  read-refused t = rw (ended, t)
