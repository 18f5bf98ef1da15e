-- REFERENCE 8.1. Document 01, 'Where the result is exact': the textbook objects, power series with whole coefficients
-- by the rules of Knuth, Seminumerical Algorithms, 4.7. Definitions only. A series is its coefficients, one for each
-- index; an index is four numbers, one to a variable. No coefficient of a sum, difference, product or quotient depends
-- on one further on in any variable, and a substitution and a shift take every row that is stored: so a truncated
-- result is the result, looked at below the limits only.
use Rattle.std.specs.Prelude.{ℕ, zero, suc, ◌+◌, cond, List, eqb, set, ℤ, pos, nat_abs, ◌+ℤ◌, ◌-ℤ◌, ◌*ℤ◌}
use Rattle.lists.specs.Four.{at, four}
use Rattle.model.specs.Places.{place, inside}
use Rattle.model_textbook.specs.Sum.{sum_z}
use Rattle.model_textbook.specs.Box.{box_n, box_z, up_to, index_minus, degree}

abbrev pub Series : Type 0
Series = List ℕ → ℤ

-- ---- 'What a polynomial is here': last variable fastest, zero past the stored lengths

-- zero past the limits
unfoldable pub truncated : List ℕ → Series → Series
unfolding inside
truncated limits A k = cond (inside limits k) (A k) (pos 0)

-- the coefficients of a polynomial with the stored lengths n, from the number at each place
unfoldable pub series_of : List ℕ → (ℕ → ℤ) → Series
unfolding truncated
series_of n a = truncated n (λ k. a (place n k))

-- ---- |A|, and the sum of all coefficients (`evaluate_all_one`), over the stored lengths

unfoldable pub weight : List ℕ → Series → ℕ
weight lengths A = box_n lengths (λ k. nat_abs (A k))

unfoldable pub sum_of_all : List ℕ → Series → ℤ
sum_of_all lengths A = box_z lengths A

-- ---- sum, difference, product

unfoldable pub plus : Series → Series → Series
plus A B k = A k +ℤ B k

unfoldable pub less : Series → Series → Series
less A B k = A k -ℤ B k

-- the Cauchy product: every j from 0 to k in each variable
unfoldable pub times : Series → Series → Series
unfolding up_to index_minus
times A B k = box_z (up_to k) (λ j. A j *ℤ B (index_minus k j))

-- ---- quotient, where the divisor's constant is 1 or -1

abbrev pub origin : List ℕ
origin = four (λ v. 0)

-- all but the constant
unfoldable pub rest : Series → Series
unfolding degree
rest B k = cond (eqb (degree k) 0) (pos 0) (B k)

-- Q with Q B = A. Let b be the constant of B and R the rest: Q b = A - Q R, and Q = b (A - Q R) since b b is 1.
-- At k, Q R asks for Q before k only: so n turns from 0 make Q at every index of degree below n.
unfoldable pub turns : ℕ → Series → Series → Series
unfolding times rest
turns zero A B k = pos 0
turns (suc n) A B k = B origin *ℤ (A k -ℤ times (turns n A B) (rest B) k)

unfoldable pub quotient : Series → Series → Series
unfolding turns degree
quotient A B k = turns (suc (degree k)) A B k

-- ---- substitution of B for the variable v

unfoldable pub one : Series
unfolding degree
one k = cond (eqb (degree k) 0) (pos 1) (pos 0)

unfoldable pub power : Series → ℕ → Series
unfolding one times
power B zero = one
power B (suc n) = times (power B n) B

-- the coefficient of v to the i in A, a series without v
unfoldable pub coefficient_of : ℕ → ℕ → Series → Series
coefficient_of v i A k = cond (eqb (at k v) 0) (A (set k v i)) (pos 0)

-- p is the length of v in A: the sum over i below p of the coefficient of v to the i, times B to the i
unfoldable pub substitute : ℕ → ℕ → Series → Series → Series
unfolding times coefficient_of power
substitute v p A B k = sum_z (λ i. times (coefficient_of v i A) (power B i) k) p 0

-- ---- `shift_down` by n in the variable v: the first n + 1 rows in one, then the rows after them

unfoldable pub shifted : ℕ → ℕ → Series → Series
shifted v n A k = cond (eqb (at k v) 0) (sum_z (λ i. A (set k v i)) (suc n) 0) (A (set k v (at k v + n)))
