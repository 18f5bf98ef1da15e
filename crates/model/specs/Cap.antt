-- REFERENCE 2.1. Document 02, W10: a cap on the total degree, 0 for none, and the cap that each family of operations
-- announces from its operands' caps alone.
use Rattle.std.specs.Prelude.{ℕ, ◌-◌, min, max, cond, eqb}
use Rattle.model.specs.declared.Family.{Family}
use Rattle.model.specs.declared.Family.TheVariants.{Constant, Same, Sum, Product, Quotient, Series, Power, Shift, Substitution, Term, Order, One}

-- the largest cap that a header may have: none yet, so that a word with one is refused as a word with spare bits is
abbrev pub most_cap : ℕ
most_cap = 0

-- the smaller cap present
unfoldable pub min_cap : ℕ → ℕ → ℕ
min_cap a b = cond (eqb a 0) b (cond (eqb b 0) a (min a b))

-- less n, 1 at least
unfoldable pub lower_cap : ℕ → ℕ → ℕ
lower_cap n c = cond (eqb c 0) 0 (max 1 (c - n))

-- The cap after an operation on one operand, whose cap is c.
abbrev pub cap_after : Family → ℕ → ℕ
cap_after Constant c = c
cap_after Same c = c
cap_after Sum c = c
cap_after Product c = c
cap_after Quotient c = c
cap_after Series c = c
cap_after (Power e) c = c
cap_after (Shift v n) c = lower_cap n c
cap_after (Substitution v) c = c
cap_after (Term v) c = c
cap_after (Order v n) c = c
cap_after One c = c
