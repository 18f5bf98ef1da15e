-- REFERENCE 3.3. Document 01, 'Announced limits and lengths': the header that each family of operations announces from
-- its operands' headers alone.
-- Total, and a header that keeps the rules (its count aside) whatever v, n and e are: what a gate refuses is announced
-- to nobody.
use Rattle.std.specs.Prelude.{ℕ, ◌+◌, ◌-◌, ◌*◌, min, max, cond, ltb, eqb}
use Rattle.lists.specs.Four.{at, four}
use Rattle.model.specs.declared.Header.{Header}
use Rattle.model.specs.declared.Family.{Family}
use Rattle.model.specs.declared.Family.TheVariants.{Constant, Same, Sum, Product, Quotient, Series, Power, Shift, Substitution, Term, Order, One}
use Rattle.model.specs.Header.{header, limit, len, no_header}
use Rattle.model.specs.Limits.{min_degrees_p1}
use Rattle.model.specs.Cap.{min_cap, cap_after}

-- x less d in the variable v, 1 at least
abbrev pub less_in : ℕ → ℕ → ℕ → ℕ → ℕ
less_in v d k x = cond (eqb k v) (max 1 (x - d)) x

-- The limit of variable k after an operation on one operand, whose limit is l.
abbrev pub limit_after : Family → ℕ → ℕ → ℕ
limit_after Constant k l = l
limit_after Same k l = l
limit_after Sum k l = l
limit_after Product k l = l
limit_after Quotient k l = l
limit_after Series k l = l
limit_after (Power e) k l = l
limit_after (Shift v n) k l = less_in v n k l
limit_after (Substitution v) k l = l
limit_after (Term v) k l = l
limit_after (Order v n) k l = l
limit_after One k l = l

-- The length of variable k of the result: l its limit, a and b the operands' lengths (after cutting, where there are
-- two operands), p the uncut length of v in the polynomial, which a substitution alone asks for.
abbrev pub length_after : Family → ℕ → ℕ → ℕ → ℕ → ℕ → ℕ
length_after Constant k l p a b = 1
length_after Same k l p a b = a
length_after Sum k l p a b = max a b
length_after Product k l p a b = min l (a + b - 1)
length_after Quotient k l p a b = cond (eqb b 1) a l
length_after Series k l p a b = cond (eqb a 1) 1 l
length_after (Power e) k l p a b = min l (e * (a - 1) + 1)
length_after (Shift v n) k l p a b = less_in v n k a
length_after (Substitution v) k l p a b = cond (eqb k v) (min l (1 + (p - 1) * (b - 1))) (min l (a + (p - 1) * (b - 1)))
length_after (Term v) k l p a b = cond (eqb k v) 1 a
length_after (Order v n) k l p a b = cond (eqb k v) (min a (n + 1)) a
length_after One k l p a b = 1

-- one operand; for what it lacks, p and b, stands 1
unfoldable pub single : Family → Header → Header
single f a =
    header a.vars (four (λ k. limit_after f k (limit a k)))
    (four (λ k. length_after f k (limit_after f k (limit a k)) 1 (len a k) 1)) (cap_after f a.cap)

-- two operands, cut to the smaller limits
unfoldable pub paired : Family → ℕ → Header → Header → Header
paired f p a b =
    let l = min_degrees_p1 a b in
    header (max a.vars b.vars) l (four (λ k. length_after f k (at l k) p (min (at l k) (len a k)) (min (at l k) (len b k))))
    (min_cap a.cap b.cap)

-- the announced header; b does not matter where there is one operand
unfoldable pub announced : Family → Header → Header → Header
announced Constant a b = no_header
announced Same a b = single Same a
announced Sum a b = paired Sum 1 a b
announced Product a b = paired Product 1 a b
announced Quotient a b = paired Quotient 1 a b
announced Series a b = single Series a
announced (Power e) a b = cond (eqb e 0) no_header (single (Power e) a)
announced (Shift v n) a b = single (Shift v n) a
announced (Substitution v) a b = cond (ltb v a.vars) (paired (Substitution v) (len a v) a b) a
announced (Term v) a b = single (Term v) a
announced (Order v n) a b = single (Order v n) a
-- document 02, W7: the operand's limits, lengths of 1
announced One a b = single One a
