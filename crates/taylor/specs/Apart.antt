-- The face: the two kinds of answer cannot be confused. The low five bits of an answered word are the refusal's number,
-- 0 where there is none: a header word ends in five zero bits, and gates refuse by 1 to 6, `least` by 11 too,
-- `exp_constant` by 12 alone. What was answered is read back from the word.
use Prim.Native.Nat.{ℕ, zero, suc, ◌+◌, ◌*◌, ◌/◌, ◌%◌, ◌^◌, ◌≤◌, ◌<◌}
use Rattle.std.specs.Prelude.{Ok, Err, List, Bool, true, false, cond, ◌≡◌, refl, eqb, leb, ltb, length, Float}
use Rattle.std.proofs.Common.{ap, arith}
use Rattle.std.proofs.Math.Dec.{lit<}
use borrow.Author.Tests.{eqb-true, eqb-false, ne_eqb}
use Rattle.lists.specs.Test.{decide, of-both}
use Rattle.model.specs.declared.Header.{Header}
use Rattle.model.specs.declared.Refusal.{Refusal}
use Rattle.model.specs.Results.{Answer}
use Rattle.model.specs.declared.Linear.{Linear}
use Rattle.model.specs.Results.{LinearReading}
use Rattle.model.specs.Results.{Reading}
use Rattle.model.specs.declared.Family.{Family}
use Rattle.model.specs.declared.Family.TheVariants.{Same, Sum, Product, Quotient, Series, Power, Shift, Substitution, Term, Order}
use Rattle.model.specs.Header.{limit, len, zero_with, var_with}
use Rattle.model.specs.Word.{header_of, good_word, word_of}
use Rattle.model.specs.Places.{inside}
use Rattle.model.specs.Faults.{good_limit}
use Rattle.model.specs.Refusals.{no_refusal, is_none, ask, fits, roomy, answer_by, read_by, linear_by}
use Rattle.model.specs.Gates.{ask_word, ask_limits, full, no_missing, read_gate, index_gate, good_total, tail_gate, one_gate, work_gate, in_gate, pair_gate}
use Rattle.model.specs.Gates.{good_limits, with_gate, var_with_gate, var_header, var_gate, announced_one}
use Rattle.model.specs.Gates.{announced_pair}
use Rattle.model.specs.Poly.{Poly, Block, block_of, held}
use Rattle.model.specs.Linear.{linear_in, line_of, linear_from, linear}
use Rattle.model.specs.Answers.{answered}
use Rattle.model.specs.Readings.{coefficient_answer, constant_term_answer, evaluate_all_one_answer, extract_linear_answer}
use Rattle.model.specs.Readings.{taylor_polynomial_gate, taylor_polynomial_answer, coefficients_of_term_gate}
use Rattle.model.specs.Readings.{coefficients_of_term_answer}
use Rattle.model.specs.Tail.{tail_answer}
use Rattle.model.specs.Least.{least_of, count_by, least_refusal, least_answer}
use Rattle.model.specs.Negate.{negate_gate, negate_answer}
use Rattle.model.specs.Add.{sum_gate, sum_answer}
use Rattle.model.specs.Product.{product_gate, product_answer}
use Rattle.model.specs.Quotient.{quotient_gate, quotient_answer}
use Rattle.model.specs.Series.{series_gate, exp_answer, log_answer}
use Rattle.model.specs.Shifts.{shift_gate, derivative_answer, expansion_answer, shift_down_answer}
use Rattle.model.specs.Power.{power_gate, power_answer}
use Rattle.model.specs.Substitute.{substitute_gate, substitute_answer}
use Rattle.gates.specs.Small.{Small, at_small, word_small, asked-small, limits-small}
use Rattle.model_exponential.specs.Constant.{in_range, constant_gate, exp_constant_answer}
use Rattle.taylor.specs.Face.{word_of_refusal, word_of_answer, word_of_reading, value_after, word_of_count, word_of_linear, variable_of}

-- ---- any answer, by the refusal r that decides it

-- a gate's refusal: its number is 31 at most, its place 64, variable and cause are a fault's
abbrev pub Few : Refusal → Type 0
Few r = Small 31 64 r

module _ (r : Refusal) (few : Few r) where
  pub low : (h : Header) → word_of_answer (answer_by r (word_of h)) % 32 ≡ r.number
  unfolding answer_by word_of
  low h = decide (is_none r) (λ t. simp t (omega (arith, eqb-true r.number 0 t))) (λ t. simp t (omega (arith, few.number)))

  pub read_low : (x : Float) → word_of_reading (read_by r x) % 32 ≡ r.number
  unfolding read_by
  read_low x = decide (is_none r) (λ t. simp t (omega (arith, eqb-true r.number 0 t))) (λ t. simp t (omega (arith, few.number)))

  pub count_low : (k : ℕ) → word_of_count (count_by r k) % 32 ≡ r.number
  unfolding count_by
  count_low k = decide (is_none r) (λ t. simp t (omega (arith, eqb-true r.number 0 t))) (λ t. simp t (omega (arith, few.number)))

-- the refusal that a word stands for: four bytes, number, place, variable, cause
abbrev pub refusal_from : ℕ → Refusal
refusal_from w = record { number = w % 2 ^ 8; place = w / 2 ^ 8 % 2 ^ 8; variable = w / 2 ^ 16 % 2 ^ 8; cause = w / 2 ^ 24 % 2 ^ 8 }

-- four numbers below 256 in a word
bytes_back : (a b c d : ℕ) → a < 256 → b < 256 → c < 256 → d < 256 →
    let w = a + 2 ^ 8 * b + 2 ^ 16 * c + 2 ^ 24 * d in
    (w % 2 ^ 8 ≡ a) × ((w / 2 ^ 8 % 2 ^ 8 ≡ b) × ((w / 2 ^ 16 % 2 ^ 8 ≡ c) × (w / 2 ^ 24 % 2 ^ 8 ≡ d)))
bytes_back a b c d ha hb hc hd = (omega arith, (omega arith, (omega arith, omega arith)))

pub refusal_from_lem : (r : Refusal) → Few r → refusal_from (word_of_refusal r) ≡ r
refusal_from_lem r few =
    let e =
    bytes_back r.number r.place r.variable r.cause (omega (arith, few.number)) (omega (arith, few.place))
    (omega (arith, few.variable)) (omega (arith, few.cause)) in
    λ i. record { number = e.0 i; place = e.1.0 i; variable = e.1.1.0 i; cause = e.1.1.1 i }

-- the answer that a word stands for
unfoldable pub answer_from : ℕ → Answer
answer_from w = cond (eqb (w % 32) 0) (Ok w) (Err (refusal_from w))

-- done
word_back : (w : ℕ) → w % 32 ≡ 0 → answer_from w ≡ Ok w
unfolding answer_from
word_back w e = rw e

-- refused
refusal-back : (r : Refusal) → Few r → (r.number ≡ 0 → ⊥) → answer_from (word_of_refusal r) ≡ Err r
unfolding answer_from
refusal-back r few n =
    let a : word_of_refusal r % 32 ≡ r.number = omega (arith, few.number) in
    rw (a, ne_eqb _ _ n) (ap Err (refusal_from_lem r few))

pub back : (r : Refusal) → Few r → (h : Header) → answer_from (word_of_answer (answer_by r (word_of h))) ≡ answer_by r (word_of h)
unfolding answer_by word_of
back r few h =
    decide (is_none r) (λ t. simp t (word_back (word_of h) (omega arith))) (λ t. simp t (refusal-back r few (eqb-false r.number 0 t)))

-- the linear test: a variable is below 4, so that done the word is 4 at most; refused it is 2^32 at least
module _ (b : Block) where
  from-small : (n v : ℕ) → n + v ≡ 4 → (linear_from b n v).variable < 4
  unfolding linear_from line_of
  from-small zero v e = lit< tt
  from-small (suc n) v e = of-both (λ (x : Linear). x.variable < 4) (linear_in b v) (omega arith) (from-small n (suc v) (omega arith))

  module _ (r : Refusal) where
    linear-small : variable_of (linear_by r (linear b)) < 4
    unfolding linear_by
    linear-small = of-both (λ (x : LinearReading). variable_of x < 4) (is_none r) (from-small 4 0 refl) (lit< tt)

    pub linear-done : is_none r ≡ true → word_of_linear (linear_by r (linear b)) ≤ 4
    unfolding linear_by
    linear-done t = rw t (of-both (λ (n : ℕ). n ≤ 4) (linear b).yes (omega (arith, from-small 4 0 refl)) (omega arith))

    pub linear-refused : is_none r ≡ false → 2 ^ 32 ≤ word_of_linear (linear_by r (linear b))
    unfolding linear_by
    linear-refused t = rw t (omega arith)

pub extract-small : (w : ℕ) (a : List Float) → variable_of (extract_linear_answer w a) < 4
unfolding extract_linear_answer
extract-small w a = linear-small (block_of (held w a)) (read_gate w (length a))

-- ---- the gates refuse by 1 to 6, or by 11

-- a test by a number alone, and one of a header word
pub asked : (b : Bool) (k : ℕ) {next : Refusal} → k ≤ 31 → Few next → Few (ask b k next)
asked b k l = asked-small b (at_small k 64 l (omega arith))

pub by_word : (w : ℕ) {next : Refusal} → Few next → Few (ask_word w next)
by_word w = asked-small (good_word w) (word_small w 64 (omega arith) (omega arith))

pub none : Few no_refusal
none = at_small 0 64 (omega arith) (omega arith)

read-few : (w m : ℕ) → Few (read_gate w m)
unfolding read_gate
read-few w m = by_word w (asked (full w m) 2 (omega arith) none)

index-few : (w m : ℕ) (i : List ℕ) → Few (index_gate w m i)
unfolding index_gate
index-few w m i =
    by_word w (asked (full w m) 2 (omega arith) (asked (no_missing (header_of w) i) 3 (omega arith) (asked (inside (header_of w).limits i) 4
    (omega arith) none)))

tail-few : (w m k : ℕ) (total : Float) → Few (tail_gate w m k total)
unfolding tail_gate
tail-few w m k total =
    by_word w
    (asked (full w m) 2 (omega arith)
    (asked (eqb (header_of w).vars 1) 3 (omega arith)
    (asked (ltb k (limit (header_of w) 0)) 4 (omega arith)
    (asked (good_total total) 4 (omega arith) none))))

least-few : (w : ℕ) (a : List Float) (q : Float) → Few (least_refusal w a q)
unfolding least_refusal
least-few w a q =
    by_word w
    (asked (full w (length a)) 2 (omega arith)
    (asked (eqb (header_of w).vars 1) 3 (omega arith)
    (asked (ltb (least_of a (len (header_of w) 0) q) (len (header_of w) 0)) 11 (omega arith) none)))

-- test 5, and 5 and 6, of the announced header
fits-few : (h : Header) (n : ℕ) → Few (ask (fits h n) 5 no_refusal)
fits-few h n = asked (fits h n) 5 (omega arith) none

room-few : (h : Header) (n s : ℕ) → Few (ask (fits h n) 5 (ask (roomy h s) 6 no_refusal))
room-few h n s = asked (fits h n) 5 (omega arith) (asked (roomy h s) 6 (omega arith) none)

one-few : (f : Family) (w m n : ℕ) → Few (one_gate f w m n)
unfolding one_gate
one-few f w m n = by_word w (asked (full w m) 2 (omega arith) (fits-few (announced_one f w) n))

work-few : (f : Family) (w m n s : ℕ) → Few (work_gate f w m n s)
unfolding work_gate
work-few f w m n s = by_word w (asked (full w m) 2 (omega arith) (room-few (announced_one f w) n s))

in-few : (f : Family) (v d w m n : ℕ) → Few (in_gate f v d w m n)
unfolding in_gate
in-few f v d w m n =
    by_word w
    (asked (full w m) 2 (omega arith)
    (asked (ltb v (header_of w).vars) 3 (omega arith)
    (asked (ltb d (limit (header_of w) v)) 4 (omega arith) (fits-few (announced_one f w) n))))

pair-few : (f : Family) (w m u l n s : ℕ) → Few (pair_gate f w m u l n s)
unfolding pair_gate
pair-few f w m u l n s =
    by_word w (by_word u (asked (full w m) 2 (omega arith) (asked (full u l) 2 (omega arith) (room-few (announced_pair f w u) n s))))

by-limits : (vars : ℕ) (l : List ℕ) {next : Refusal} → Few next → Few (ask_limits vars l next)
by-limits vars l = asked-small (good_limits vars l) (limits-small vars l (omega arith) (omega arith))

with-few : (vars : ℕ) (l : List ℕ) (n : ℕ) → Few (with_gate vars l n)
unfolding with_gate
with-few vars l n = by-limits vars l (fits-few (zero_with vars l) n)

var_with-few : (v vars : ℕ) (l : List ℕ) (n : ℕ) → Few (var_with_gate v vars l n)
unfolding var_with_gate
var_with-few v vars l n = by-limits vars l (asked (ltb v vars) 3 (omega arith) (fits-few (var_with v vars l) n))

var-few : (v l n : ℕ) → Few (var_gate v l n)
unfolding var_gate
var-few v l n =
    asked-small (good_limit l) (record { number = omega arith; place = omega arith; variable = omega arith; cause = omega arith })
    (asked (leb v 3) 3 (omega arith) (fits-few (var_header v l) n))

-- ---- the entries: each answer is read back from its word

module _ (p : Poly) (l : List ℕ) (n : ℕ) where
  pub with-back : (vars : ℕ) → answer_from (word_of_answer (answered (with_gate vars l n) p)) ≡ answered (with_gate vars l n) p
  with-back vars = back (with_gate vars l n) (with-few vars l n) p.head

  pub var_with-back : (v vars : ℕ) → answer_from (word_of_answer (answered (var_with_gate v vars l n) p)) ≡ answered (var_with_gate v vars l n) p
  var_with-back v vars = back (var_with_gate v vars l n) (var_with-few v vars l n) p.head

pub var-back : (p : Poly) (v l n : ℕ) → answer_from (word_of_answer (answered (var_gate v l n) p)) ≡ answered (var_gate v l n) p
var-back p v l n = back (var_gate v l n) (var-few v l n) p.head

module _ (w : ℕ) (a : List Float) where
  pub coefficient-low : (i : List ℕ) → word_of_reading (coefficient_answer w a i) % 32 ≡ (index_gate w (length a) i).number
  unfolding coefficient_answer
  coefficient-low i = read_low (index_gate w (length a) i) (index-few w (length a) i) _

  pub constant_term-low : word_of_reading (constant_term_answer w a) % 32 ≡ (read_gate w (length a)).number
  unfolding constant_term_answer
  constant_term-low = read_low (read_gate w (length a)) (read-few w (length a)) _

  pub evaluate_all_one-low : word_of_reading (evaluate_all_one_answer w a) % 32 ≡ (read_gate w (length a)).number
  unfolding evaluate_all_one_answer
  evaluate_all_one-low = read_low (read_gate w (length a)) (read-few w (length a)) _

  pub tail-low : (k : ℕ) (total : Float) → word_of_reading (tail_answer w a k total) % 32 ≡ (tail_gate w (length a) k total).number
  unfolding tail_answer
  tail-low k total = read_low (tail_gate w (length a) k total) (tail-few w (length a) k total) _

  pub least-low : (q : Float) → word_of_count (least_answer w a q) % 32 ≡ (least_refusal w a q).number
  unfolding least_answer
  least-low q = count_low (least_refusal w a q) (least-few w a q) _

  module _ (out : List Float) where
    pub taylor_polynomial-back : (v n : ℕ) → answer_from (word_of_answer (taylor_polynomial_answer w a v n out)) ≡ taylor_polynomial_answer w a v n out
    unfolding taylor_polynomial_answer
    taylor_polynomial-back v n = back (taylor_polynomial_gate w a v n out) (in-few (Order v n) v n w (length a) (length out)) _

    pub coefficients_of_term-back : (v n : ℕ) → answer_from (word_of_answer (coefficients_of_term_answer w a v n out)) ≡ coefficients_of_term_answer w a v n out
    unfolding coefficients_of_term_answer
    coefficients_of_term-back v n = back (coefficients_of_term_gate w a v n out) (in-few (Term v) v n w (length a) (length out)) _

    pub negate-back : answer_from (word_of_answer (negate_answer w a out)) ≡ negate_answer w a out
    unfolding negate_answer
    negate-back = back (negate_gate w a out) (one-few Same w (length a) (length out)) _

    module _ (v n : ℕ) where
      pub derivative-back : answer_from (word_of_answer (derivative_answer w a v n out)) ≡ derivative_answer w a v n out
      unfolding derivative_answer
      derivative-back = back (shift_gate w a v n out) (in-few (Shift v n) v n w (length a) (length out)) _

      pub expansion-back : answer_from (word_of_answer (expansion_answer w a v n out)) ≡ expansion_answer w a v n out
      unfolding expansion_answer
      expansion-back = back (shift_gate w a v n out) (in-few (Shift v n) v n w (length a) (length out)) _

      pub shift_down-back : answer_from (word_of_answer (shift_down_answer w a v n out)) ≡ shift_down_answer w a v n out
      unfolding shift_down_answer
      shift_down-back = back (shift_gate w a v n out) (in-few (Shift v n) v n w (length a) (length out)) _

    pub power-back : (e : ℕ) (scratch : List Float) → answer_from (word_of_answer (power_answer w a e out scratch)) ≡ power_answer w a e out scratch
    unfolding power_answer
    power-back e scratch = back (power_gate w a e out scratch) (work-few (Power e) w (length a) (length out) (length scratch)) _

    module _ (head : Float) (scratch : List Float) where
      pub exp-back : answer_from (word_of_answer (exp_answer w a head out scratch)) ≡ exp_answer w a head out scratch
      unfolding exp_answer
      exp-back = back (series_gate w a head out scratch) (work-few Series w (length a) (length out) (length scratch)) _

      pub log_back : answer_from (word_of_answer (log_answer w a head out scratch)) ≡ log_answer w a head out scratch
      unfolding log_answer
      log_back = back (series_gate w a head out scratch) (work-few Series w (length a) (length out) (length scratch)) _

    module _ (u : ℕ) (b scratch : List Float) where
      pub sum_back : (minus : Bool) → answer_from (word_of_answer (sum_answer minus w a u b out scratch)) ≡ sum_answer minus w a u b out scratch
      unfolding sum_answer
      sum_back minus =
          back (sum_gate minus w a u b out scratch) (pair-few Sum w (length a) u (length b) (length out) (length scratch)) _

      pub product-back : answer_from (word_of_answer (product_answer w a u b out scratch)) ≡ product_answer w a u b out scratch
      unfolding product_answer
      product-back = back (product_gate w a u b out scratch) (pair-few Product w (length a) u (length b) (length out) (length scratch)) _

      pub quotient-back : answer_from (word_of_answer (quotient_answer w a u b out scratch)) ≡ quotient_answer w a u b out scratch
      unfolding quotient_answer
      quotient-back = back (quotient_gate w a u b out scratch) (pair-few Quotient w (length a) u (length b) (length out) (length scratch)) _

      pub substitute-back : (v : ℕ) → answer_from (word_of_answer (substitute_answer v w a u b out scratch)) ≡ substitute_answer v w a u b out scratch
      unfolding substitute_answer
      substitute-back v =
          back (substitute_gate v w a u b out scratch) (pair-few (Substitution v) w (length a) u (length b) (length out) (length scratch)) _

-- ---- the exponential of a constant: its answer is read back from the word and the number behind the pointer

-- the reading that a word and a number stand for
unfoldable pub reading_from : ℕ → Float → Reading
reading_from w x = cond (eqb w 0) (Ok x) (Err (refusal_from w))

reading-back : (r : Refusal) → Few r → (x old : Float)
    → reading_from (word_of_reading (read_by r x)) (value_after (read_by r x) old) ≡ read_by r x
unfolding read_by reading_from
reading-back r few x old =
    decide (is_none r) (λ t. rw t) (λ t.
    let n = eqb-false r.number 0 t in
    let z : eqb (word_of_refusal r) 0 ≡ false = ne_eqb (word_of_refusal r) 0 (λ e. n (omega (arith, e))) in
    rw (t, z) (ap Err (refusal_from_lem r few)))

-- 12 alone
constant-few : (x : Float) → Few (constant_gate x)
unfolding constant_gate
constant-few x = asked (in_range x) 12 (omega arith) none

pub exp_constant-low : (x : Float) → word_of_reading (exp_constant_answer x) % 32 ≡ (constant_gate x).number
unfolding exp_constant_answer
exp_constant-low x = read_low (constant_gate x) (constant-few x) _

pub exp_constant-back : (x old : Float)
    → reading_from (word_of_reading (exp_constant_answer x)) (value_after (exp_constant_answer x) old) ≡ exp_constant_answer x
unfolding exp_constant_answer
exp_constant-back x old = reading-back (constant_gate x) (constant-few x) _ old
