-- REFERENCE 9.2. Full lengths: how long every place would be with no limits anywhere, taking every input as the
-- polynomial that it stores; from words alone. They are document 01's 'Announced limits and lengths' with the limit
-- left out, and the operands' full lengths go in. A length is 1 at least, so 0 stands for 'without end'; 2^32 stands
-- for itself and all that is longer.
use Rattle.std.specs.Prelude.{ℕ, ◌+◌, ◌-◌, ◌*◌, ◌/◌, ◌%◌, ◌^◌, min, max, Bool, ◌||◌, cond, List, [], ltb, eqb, length, get_or}
use Rattle.lists.specs.Grow.{grow}
use Rattle.model.specs.declared.Header.{Header}
use Rattle.model.specs.declared.Family.{Family}
use Rattle.model.specs.declared.Family.TheVariants.{Constant, Same, Sum, Product, Quotient, Series, Power, Shift, Substitution, Term, Order, One}
use Rattle.model.specs.Header.{len}
use Rattle.model_recipes.specs.Steps.{step_of}
use Rattle.model_recipes.specs.Recipe.{family_of, head_at}
use Rattle.model_texts.specs.Trace.{step_word}

abbrev pub many : ℕ
many = 2 ^ 32

-- counted up to `many`
abbrev pub counted : ℕ → ℕ
counted n = min many n

-- ---- of one variable: a, b the operands' full lengths there

abbrev pub endless : ℕ → Bool
endless a = eqb a 0

unfoldable pub sum_full : ℕ → ℕ → ℕ
sum_full a b = cond (endless a || endless b) 0 (max a b)

unfoldable pub product_full : ℕ → ℕ → ℕ
product_full a b = cond (endless a || endless b) 0 (counted (a + b - 1))

-- by a constant it ends where the dividend does
unfoldable pub quotient_full : ℕ → ℕ → ℕ
quotient_full a b = cond (eqb b 1) a 0

-- exp and log of a constant are constants
unfoldable pub series_full : ℕ → ℕ
series_full a = cond (eqb a 1) 1 0

unfoldable pub power_full : ℕ → ℕ → ℕ
power_full e a = cond (eqb e 0) 1 (cond (endless a) 0 (counted (e * (a - 1) + 1)))

-- what is longer than can be counted stays so
unfoldable pub shift_full : ℕ → ℕ → ℕ
shift_full n a = cond (endless a || eqb a many) a (max 1 (a - n))

-- p - 1 powers of b on top of what stands there without them
unfoldable pub substitution_full : ℕ → ℕ → ℕ → ℕ
substitution_full p a b = cond (eqb p 1 || eqb b 1) a (cond (endless a || (endless p || endless b)) 0 (counted (a + (p - 1) * (b - 1))))

-- of the variable k; p the full length of the polynomial in the variable of a substitution
unfoldable pub full_after : Family → ℕ → ℕ → ℕ → ℕ → ℕ
full_after Constant k p a b = 1
full_after Same k p a b = a
full_after Sum k p a b = sum_full a b
full_after Product k p a b = product_full a b
full_after Quotient k p a b = quotient_full a b
full_after Series k p a b = series_full a
full_after (Power e) k p a b = power_full e a
full_after (Shift v n) k p a b = cond (eqb k v) (shift_full n a) a
full_after (Substitution v) k p a b = substitution_full p (cond (eqb k v) 1 a) b
-- no step is of these
full_after (Term v) k p a b = a
full_after (Order v n) k p a b = a
full_after One k p a b = 1

-- ---- of all places, four numbers a place

-- of the place x in the variable v; fs the full lengths known, 1 past them
abbrev pub full_at : List ℕ → ℕ → ℕ → ℕ
full_at fs x v = counted (get_or fs (4 * x + v) 1)

-- the step w, in the variable v; a power of zero is one in every edition, so edition 0's families serve for all
unfoldable pub step_full : List ℕ → ℕ → ℕ → ℕ
step_full fs w v =
    let s = step_of w in
    full_after (family_of 0 s) v (full_at fs s.a s.variable) (full_at fs s.a v) (full_at fs s.b v)

module _ (known : List Header) (ss : List ℕ) (inputs : ℕ) where
  -- the next one
  unfoldable pub full_next : List ℕ → ℕ
  full_next fs =
      let p = length fs / 4 in
      let v = length fs % 4 in
      cond (ltb p inputs) (len (head_at known p) v) (step_full fs (step_word ss inputs p) v)

  -- of n places
  unfoldable pub fulls : ℕ → List ℕ
  fulls n = grow (4 * n) full_next []
