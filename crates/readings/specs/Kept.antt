-- Every constructor, `taylor_polynomial` and `coefficients_of_term` keep what an operation owes of its result.
use Rattle.std.specs.Prelude.{ℕ, ◌<◌, List, [], ◌∷◌, refl, leb, Float}
use Rattle.std.proofs.Common.{sym, leb-true, leb-false, length-take-le}
use Rattle.lists.specs.Test.{decide}
use Rattle.lists.specs.Table.{length-table}
use Rattle.model.specs.declared.Family.TheVariants.{Term, Order}
use Rattle.model.specs.Header.{len, stored, no_header, zero_with, var_with}
use Rattle.model.specs.Announced.{announced}
use Rattle.model.specs.Refusals.{zero_f}
use Rattle.model.specs.Poly.{Poly}
use Rattle.model.specs.Readings.{taylor_polynomial, coefficients_of_term, one_f}
use Rattle.shape_words.specs.Rules.{Ruled, Regular}
use Rattle.shape.specs.Keeps.{Keeps, ones-keeps, full-keeps}
use Rattle.model.specs.Constructed.{constant, variable}
use Rattle.readings_short.specs.Short.{zero-count, var-count}
use Rattle.readings_row.specs.Term.{term_header, term-regular, order-regular, term-past, term-row}

-- constructors: their header is the announced one (without variables: `none-keeps`, crate shape)

pub constant-keeps : (vars : ℕ) (l : List ℕ) (x : Float) → Regular (zero_with vars l) → Keeps (zero_with vars l) (constant (zero_with vars l) x)
constant-keeps vars l x r = full-keeps r (sym (zero-count vars l))

pub variable-keeps : (v vars : ℕ) (l : List ℕ) (x : Float) → v < 4 → Regular (var_with v vars l) → Keeps (var_with v vars l) (variable (var_with v vars l) x)
variable-keeps v vars l x h r = full-keeps r (length-take-le (stored (var_with v vars l)) (x ∷ one_f ∷ []) (var-count vars l v h))

-- parts in one variable

pub coefficients_of_term-keeps : (v d : ℕ) (p : Poly) → Ruled p.head → Keeps (announced (Term v) p.head no_header) (coefficients_of_term v d p)
coefficients_of_term-keeps v d p g =
    let r = term-regular v g in
    decide (leb (len p.head v) d)
    (λ t. rw (term-past v d p refl (leb-true _ _ t)) (ones-keeps zero_f r))
    (λ t. rw (term-row v d p refl (leb-false _ _ t)) (full-keeps r (length-table _ (stored (term_header v d p)))))

pub taylor_polynomial-keeps : (v n : ℕ) (p : Poly) → Ruled p.head → Keeps (announced (Order v n) p.head no_header) (taylor_polynomial v n p)
unfolding taylor_polynomial
taylor_polynomial-keeps v n p g = full-keeps (order-regular v n g) (length-table _ (stored (announced (Order v n) p.head no_header)))
