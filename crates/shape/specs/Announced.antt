-- An announced header is a header that keeps the rules, its count aside; its limits are as document 01 says; its
-- lengths are at most its limits.
-- Whatever v, n and e are: no gate is asked.
use Rattle.std.specs.Prelude.{ℕ, ◌-◌, ◌≤◌, ◌<◌, min, max, Bool, true, false, cond, ◌≡◌, refl, ltb, eqb}
use Rattle.std.proofs.Common.{sym, ◌∙◌, arith}
use Rattle.std.proofs.lemmas.Bool.{eqb-false}
use Rattle.lists.specs.Test.{of-both, decide}
use Rattle.lists.specs.Four.{at, four}
use Rattle.model.specs.declared.Header.{Header}
use Rattle.model.specs.declared.Family.{Family}
use Rattle.model.specs.declared.Family.TheVariants.{Constant, Same, Sum, Product, Quotient, Series, Power, Shift, Substitution, Term, Order, One}
use Rattle.model.specs.Header.{header, limit, len, no_header}
use Rattle.model.specs.Limits.{min_degrees_p1}
use Rattle.model.specs.Cap.{most_cap, min_cap, lower_cap, cap_after}
use Rattle.model.specs.Announced.{less_in, limit_after, length_after, single, paired, announced}
use Rattle.shape_words.specs.Rules.{GoodVar, Ruled, Regular, ruled-at, regular-four, none-regular}
use Rattle.shape.specs.Limits.{min_degrees-range, min_degrees-gone}

-- a length of 1 to l
record Length (l x : ℕ) : Type 0 where
  lo : 1 ≤ x
  hi : x ≤ l

length : {l x : ℕ} → 1 ≤ x → x ≤ l → Length l x
length p q = record { lo = p; hi = q }

-- the lengths that a family gives lie under the limit, where the operands' do
length_after_lem : (f : Family) (k l p a b : ℕ) → Length l a → Length l b → Length l (length_after f k l p a b)
length_after_lem Constant k l p a b g h = length (omega arith) (omega arith)
length_after_lem Same k l p a b g h = g
length_after_lem Sum k l p a b g h = length (omega arith) (omega arith)
length_after_lem Product k l p a b g h = length (omega arith) (omega arith)
length_after_lem Quotient k l p a b g h = of-both (Length l) (eqb b 1) g (length (omega arith) (omega arith))
length_after_lem Series k l p a b g h = of-both (Length l) (eqb a 1) (length (omega arith) (omega arith)) (length (omega arith) (omega arith))
length_after_lem (Power e) k l p a b g h = length (omega arith) (omega arith)
length_after_lem (Shift v n) k l p a b g h = of-both (Length l) (eqb k v) (length (omega arith) (omega arith)) g
length_after_lem (Substitution v) k l p a b g h = of-both (Length l) (eqb k v) (length (omega arith) (omega arith)) (length (omega arith) (omega arith))
length_after_lem (Term v) k l p a b g h = of-both (Length l) (eqb k v) (length (omega arith) (omega arith)) g
length_after_lem (Order v n) k l p a b g h = of-both (Length l) (eqb k v) (length (omega arith) (omega arith)) g
length_after_lem One k l p a b g h = length (omega arith) (omega arith)

-- one operand

one-var : {v k l a : ℕ} → GoodVar v k l a → (x : ℕ) → Length l x → GoodVar v k l x
one-var g x h = record { pos = h.lo; fit = h.hi; most = g.most; gone = g.gone }

lowered : (t : Bool) (d : ℕ) {v k l a : ℕ} → GoodVar v k l a → GoodVar v k (cond t (max 1 (l - d)) l) (cond t (max 1 (a - d)) a)
lowered true d g = record { pos = omega arith; fit = omega (arith, g.fit); most = omega (arith, g); gone = λ m. omega (arith, g.gone m) }
lowered false d g = g

-- a family that leaves the limit alone
kept-var : (f : Family) {v k l a : ℕ} → limit_after f k l ≡ l → GoodVar v k l a → GoodVar v k (limit_after f k l) (length_after f k (limit_after f k l) 1 a 1)
kept-var f {v} {k} {l} {a} e g = rw e (one-var g _ (length_after_lem f k l 1 a 1 (length g.pos g.fit) (length (omega arith) (omega arith))))

single-var : (f : Family) {v k l a : ℕ} → GoodVar v k l a → GoodVar v k (limit_after f k l) (length_after f k (limit_after f k l) 1 a 1)
single-var Constant = kept-var Constant refl
single-var Same = kept-var Same refl
single-var Sum = kept-var Sum refl
single-var Product = kept-var Product refl
single-var Quotient = kept-var Quotient refl
single-var Series = kept-var Series refl
single-var (Power e) = kept-var (Power e) refl
single-var (Shift v n) {k = k} = lowered (eqb k v) n
single-var (Substitution v) = kept-var (Substitution v) refl
single-var (Term v) = kept-var (Term v) refl
single-var (Order v n) = kept-var (Order v n) refl
single-var One = kept-var One refl

-- the cap that a family gives is a cap that a header may have
cap_after_lem : (f : Family) {c : ℕ} → c ≤ most_cap → cap_after f c ≤ most_cap
unfolding lower_cap
cap_after_lem Constant h = h
cap_after_lem Same h = h
cap_after_lem Sum h = h
cap_after_lem Product h = h
cap_after_lem Quotient h = h
cap_after_lem Series h = h
cap_after_lem (Power e) h = h
cap_after_lem (Shift v n) {c} h = decide (eqb c 0) (λ e. rw e (omega arith)) (λ e. rw e (omega (arith, h, eqb-false c 0 e)))
cap_after_lem (Substitution v) h = h
cap_after_lem (Term v) h = h
cap_after_lem (Order v n) h = h
cap_after_lem One h = h

min_cap-low : {a b : ℕ} → a ≤ most_cap → b ≤ most_cap → min_cap a b ≤ most_cap
unfolding min_cap
min_cap-low {a} {b} g h = of-both (λ x. x ≤ most_cap) (eqb a 0) h (of-both (λ x. x ≤ most_cap) (eqb b 0) g (omega (arith, g, h)))

pub single-regular : (f : Family) {a : Header} → Ruled a → Regular (single f a)
unfolding single
single-regular f {a} g =
    regular-four a.vars (λ k. limit_after f k (limit a k))
    (λ k. length_after f k (limit_after f k (limit a k)) 1 (len a k) 1) g.few (cap_after_lem f g.low)
    (λ k h. single-var f (ruled-at g k h))

-- two operands

cut-length : {l x : ℕ} → 1 ≤ l → 1 ≤ x → Length l (min l x)
cut-length p q = length (omega arith) (omega arith)

paired-var : (f : Family) (p : ℕ) {a b : Header} → Ruled a → Ruled b → (k : ℕ) → k < 4
    → GoodVar (max a.vars b.vars) k (at (min_degrees_p1 a b) k)
    (length_after f k (at (min_degrees_p1 a b) k) p (min (at (min_degrees_p1 a b) k) (len a k))
    (min (at (min_degrees_p1 a b) k) (len b k)))
paired-var f p {a} {b} g h k lt =
    let r = min_degrees-range a b g h k lt in
    let n = length_after_lem f k (at (min_degrees_p1 a b) k) p _ _ (cut-length r.lo (ruled-at g k lt).pos) (cut-length r.lo (ruled-at h k lt).pos) in
    record { pos = n.lo; fit = n.hi; most = r.hi; gone = λ m. min_degrees-gone a b g h k lt m }

pub paired-regular : (f : Family) (p : ℕ) {a b : Header} → Ruled a → Ruled b → Regular (paired f p a b)
unfolding paired min_degrees_p1
paired-regular f p {a} {b} g h =
    regular-four (max a.vars b.vars) (at (min_degrees_p1 a b))
    (λ k. length_after f k (at (min_degrees_p1 a b) k) p (min (at (min_degrees_p1 a b) k) (len a k)) (min (at (min_degrees_p1 a b) k) (len b k)))
    (omega (arith, g.few, h.few)) (min_cap-low g.low h.low) (paired-var f p g h)

-- every family
pub announced-regular : (f : Family) {a b : Header} → Regular a → Regular b → Regular (announced f a b)
unfolding announced
announced-regular Constant g h = none-regular
announced-regular Same g h = single-regular Same g.rules
announced-regular Sum g h = paired-regular Sum 1 g.rules h.rules
announced-regular Product g h = paired-regular Product 1 g.rules h.rules
announced-regular Quotient g h = paired-regular Quotient 1 g.rules h.rules
announced-regular Series g h = single-regular Series g.rules
announced-regular (Power e) g h = of-both Regular (eqb e 0) none-regular (single-regular (Power e) g.rules)
announced-regular (Shift v n) g h = single-regular (Shift v n) g.rules
announced-regular (Substitution v) {a} {b} g h = of-both Regular (ltb v a.vars) (paired-regular (Substitution v) (len a v) g.rules h.rules) g
announced-regular (Term v) g h = single-regular (Term v) g.rules
announced-regular (Order v n) g h = single-regular (Order v n) g.rules
announced-regular One g h = single-regular One g.rules

-- The limits, as document 01 says: the smaller of the two, unchanged, or less n in the variable.

pub paired-limits : (f : Family) (p : ℕ) (a b : Header) → (paired f p a b).limits ≡ min_degrees_p1 a b
unfolding paired
paired-limits f p a b = refl

pub shift-limits : (v n : ℕ) (a : Header) → (single (Shift v n) a).limits ≡ four (λ k. less_in v n k (limit a k))
unfolding single
shift-limits v n a = refl

-- a family that leaves one operand's limits alone
pub single-limits : (f : Family) {a : Header} → Regular a → ((k : ℕ) → limit_after f k (limit a k) ≡ limit a k) → (single f a).limits ≡ a.limits
unfolding single
single-limits f {a} g h = (rw (h 0, h 1, h 2, h 3)) ∙ sym g.ls

-- the announced header of a header that keeps the rules is that header
pub same-header : {h : Header} → Regular h → announced Same h no_header ≡ h
unfolding announced single
same-header {h} r = let e : h ≡ single Same h = λ i. record { vars = h.vars; limits = r.ls i; lengths = r.ns i; cap = h.cap } in sym e
