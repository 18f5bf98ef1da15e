-- REFERENCE 4.3, 4.4. Document 01, port order 2, readings: numbers read off a polynomial, and its parts in one
-- variable.
use Rattle.std.specs.Prelude.{ℕ, List, [], ◌∷◌, cond, leb, length, get_or, set, Float}
use Rattle.std.specs.Float.{nan, binary64}
use Rattle.std.specs.Float.Ieee.{add, of_bits}
use Rattle.lists.specs.Table.{table}
use Rattle.lists.specs.Walk.{walk}
use Rattle.model.specs.declared.Refusal.{Refusal}
use Rattle.model.specs.Results.{Answer}
use Rattle.model.specs.Results.{Reading}
use Rattle.model.specs.Results.{LinearReading}
use Rattle.model.specs.declared.Family.TheVariants.{Term, Order}
use Rattle.model.specs.Header.{stored, len, ones, no_header}
use Rattle.model.specs.Places.{index}
use Rattle.model.specs.Announced.{announced}
use Rattle.model.specs.Refusals.{zero_f, read_by, linear_by}
use Rattle.model.specs.Gates.{read_gate, index_gate, in_gate, announced_one}
use Rattle.model.specs.Poly.{Poly, block, block_of, poly_of, held, read_at, coefficient_at}
use Rattle.model.specs.Linear.{linear}
use Rattle.model.specs.Answers.{answered, out_after}

abbrev pub one_f : Float
one_f = of_bits binary64 0x3ff0000000000000

abbrev pub first : List Float → Float
first a = get_or a 0 nan

-- the sum of the first n, from +0.0 upwards
unfoldable pub sum_to : List Float → ℕ → Float
sum_to a n = walk (λ i acc. add binary64 acc (get_or a i nan)) n 0 zero_f

-- w the header word, a the coefficients
module _ (w : ℕ) (a : List Float) where
  -- at the index i
  unfoldable pub coefficient_answer : List ℕ → Reading
  coefficient_answer i = read_by (index_gate w (length a) i) (coefficient_at (block_of (held w a)) i)

  unfoldable pub constant_term_answer : Reading
  constant_term_answer = read_by (read_gate w (length a)) (first a)

  unfoldable pub evaluate_all_one_answer : Reading
  evaluate_all_one_answer = read_by (read_gate w (length a)) (sum_to a (stored (held w a).head))

  unfoldable pub extract_linear_answer : LinearReading
  extract_linear_answer = linear_by (read_gate w (length a)) (linear (block_of (held w a)))

-- `taylor_polynomial`: the powers of v up to the order n, limits unchanged
unfoldable pub taylor_polynomial : ℕ → ℕ → Poly → Poly
taylor_polynomial v n p =
    let h = announced (Order v n) p.head no_header in
    poly_of h (block h.lengths (table (stored h) (λ k. read_at (block_of p) (index h.lengths k))))

-- `coefficients_of_term`: the row n of v, with length 1 there; past the stored length a zero, with all lengths 1
unfoldable pub coefficients_of_term : ℕ → ℕ → Poly → Poly
coefficients_of_term v n p =
    let h = announced (Term v) p.head no_header in
    poly_of h
    (cond (leb (len p.head v) n)
    (block ones (zero_f ∷ []))
    (block h.lengths (table (stored h) (λ k. read_at (block_of p) (set (index h.lengths k) v n)))))

-- v the variable, n the order, out the buffer as it came
module _ (w : ℕ) (a : List Float) (v n : ℕ) (out : List Float) where
  abbrev pub taylor_polynomial_gate : Refusal
  taylor_polynomial_gate = in_gate (Order v n) v n w (length a) (length out)

  unfoldable pub taylor_polynomial_answer : Answer
  taylor_polynomial_answer = answered taylor_polynomial_gate (taylor_polynomial v n (held w a))

  unfoldable pub taylor_polynomial_out : List Float
  taylor_polynomial_out = out_after taylor_polynomial_gate (announced_one (Order v n) w) (taylor_polynomial v n (held w a)) out

  abbrev pub coefficients_of_term_gate : Refusal
  coefficients_of_term_gate = in_gate (Term v) v n w (length a) (length out)

  unfoldable pub coefficients_of_term_answer : Answer
  coefficients_of_term_answer = answered coefficients_of_term_gate (coefficients_of_term v n (held w a))

  unfoldable pub coefficients_of_term_out : List Float
  coefficients_of_term_out = out_after coefficients_of_term_gate (announced_one (Term v) w) (coefficients_of_term v n (held w a)) out
