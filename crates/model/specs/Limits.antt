-- REFERENCE 3.1 to 3.3. Document 01, port order 1: the smaller limits, cutting, and the lengths of a sum and of a
-- product.
use Rattle.std.specs.Prelude.{ℕ, ◌+◌, ◌-◌, min, max, List, cond, ltb}
use Rattle.lists.specs.Four.{at, four}
use Rattle.model.specs.declared.Header.{Header}
use Rattle.model.specs.Header.{limit}

-- of variable k, with the limits l and m among v and w variables: the smaller; the other's, where one operand lacks it
unfoldable pub min_limit : ℕ → ℕ → ℕ → ℕ → ℕ → ℕ
min_limit v w k l m = cond (ltb k v) (cond (ltb k w) (min l m) l) m

-- the Rust's `min_degrees_p1`
unfoldable pub min_degrees_p1 : Header → Header → List ℕ
min_degrees_p1 a b = four (λ k. min_limit a.vars b.vars k (limit a k) (limit b k))

-- lengths cut to limits
unfoldable pub cut_to : List ℕ → List ℕ → List ℕ
cut_to l n = four (λ k. min (at l k) (at n k))

-- the Rust's `max_shape`, of lengths that are cut already
unfoldable pub max_shape : List ℕ → List ℕ → List ℕ
max_shape n m = four (λ k. max (at n k) (at m k))

-- the Rust's `sum_shape`, of lengths that are cut already: l the limits
unfoldable pub sum_shape : List ℕ → List ℕ → List ℕ → List ℕ
sum_shape l n m = four (λ k. min (at l k) (at n k + at m k - 1))
