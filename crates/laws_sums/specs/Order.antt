-- The order of floats: what is at most a float is at most all that are at least that float, infinities and zeros of
-- either sign included; of a NaN nothing is said.
use Rattle.std.specs.Prelude.{ℕ, ◌+◌, ◌*◌, ◌≤◌, ◌<◌, Bool, true, false, not, ◌&&◌, ◌||◌, cond, ◌≡◌, refl, ℤ, ltb, eqb, Float}
use Rattle.std.specs.Bool.{beq}
use Rattle.std.proofs.lemmas.Bool.{false≢true, eqb-false}
use Rattle.std.proofs.Common.{sym, ap, subst, ◌∙◌, arith, zero-mul, lt-ltb, ltb-true, ltb-false, eq-eqb, eqb-true}
use Rattle.std.proofs.Math.Nat.{eq_of_mul-eq-mul_right}
use Rattle.std.specs.Float.{nan, inf, fin}
use Rattle.std.specs.Float.Ieee.{below, level, up, down, le, lt, eq}
use Rattle.std.specs.Float.Ieee.Fits.{down_pos}
use Rattle.std.specs.Float.Ieee.Positive.{through}
use Rattle.lists.specs.Test.{decide, and_left, and_right, or_right, or_intro}

-- of two numbers with their signs, over one denominator
abbrev pub AtMost : Bool → ℕ → Bool → ℕ → Type 0
AtMost false a false b = a ≤ b
AtMost false a true b = (a ≡ 0) × (b ≡ 0)
AtMost true a false b = 0 ≤ a
AtMost true a true b = b ≤ a

pub at_most_lem : (s : Bool) (a : ℕ) (t : Bool) (b : ℕ) → (below s a t b || level s a t b) ≡ true → AtMost s a t b
at_most_lem false a false b h =
    decide (ltb a b)
    (λ l. omega (arith, ltb-true a b l))
    (λ l. omega (arith, eqb-true a b (and_left (eqb a b) (true || eqb a 0) (or_right (ltb a b) _ h l))))
at_most_lem false a true b h =
    let e : a ≡ b = eqb-true a b (and_left (eqb a b) (false || eqb a 0) h) in
    let z : a ≡ 0 = eqb-true a 0 (and_right (eqb a b) (eqb a 0) h) in
    (z, sym e ∙ z)
at_most_lem true a false b h = omega arith
at_most_lem true a true b h =
    decide (ltb b a)
    (λ l. omega (arith, ltb-true b a l))
    (λ l. omega (arith, eqb-true a b (and_left (eqb a b) (true || eqb a 0) (or_right (ltb b a) _ h l))))

pub most-at : (s : Bool) (a : ℕ) (t : Bool) (b : ℕ) → AtMost s a t b → (below s a t b || level s a t b) ≡ true
most-at false a false b h =
    or_intro (ltb a b) (level false a false b) (λ l. let e : a ≡ b = omega (arith, ltb-false a b l) in rw (eq-eqb a b e))
most-at false a true b h = let e : a ≡ b = h.0 ∙ sym h.1 in rw (eq-eqb a b e, eq-eqb a 0 h.0)
most-at true a false b h =
    or_intro (ltb 0 (a + b)) (level true a false b) (λ l.
    let m = ltb-false 0 (a + b) l in
    let z : a ≡ 0 = omega arith in
    let e : a ≡ b = omega arith in
    rw (eq-eqb a b e, eq-eqb a 0 z))
most-at true a true b h =
    or_intro (ltb b a) (level true a true b) (λ l. let e : a ≡ b = omega (arith, ltb-false b a l) in rw (eq-eqb a b e))

pub none : (a c : ℕ) → 0 < c → a * c ≡ 0 → a ≡ 0
none a c p h = eq_of_mul-eq-mul_right c p a 0 (h ∙ sym (zero-mul c))

pub none_of : (a c : ℕ) → a ≡ 0 → a * c ≡ 0
none_of a c h = ap (λ (x : ℕ). x * c) h ∙ zero-mul c

-- x / p, y / q and z / r
module _ (x y z p q r : ℕ) (P : 0 < p) (Q : 0 < q) (R : 0 < r) where
  chained : (s t u : Bool) → AtMost s (x * q) t (y * p) → AtMost t (y * r) u (z * q) → AtMost s (x * r) u (z * p)
  chained false false false h k = through x y z p q r Q h k
  chained false false true h k =
      let y0 : y * p ≡ 0 = none_of y p (none y r R k.0) in
      (none_of x r (none x q Q (omega arith)), none_of z p (none z q Q k.1))
  chained false true false h k = let x0 : x * r ≡ 0 = none_of x r (none x q Q h.0) in omega arith
  chained false true true h k =
      let y0 : y * r ≡ 0 = none_of y r (none y p P h.1) in
      (none_of x r (none x q Q h.0), none_of z p (none z q Q (omega arith)))
  chained true false false h k = omega arith
  chained true false true h k = let z0 : z * p ≡ 0 = none_of z p (none z q Q k.1) in omega arith
  chained true true false h k = omega arith
  chained true true true h k = through z y x r q p Q k h

or-none : (a : Bool) → (a || false) ≡ true → a ≡ true
or-none true h = refl
or-none false h = h

none_or : (a : Bool) → a ≡ true → (a || false) ≡ true
none_or true h = refl
none_or false h = h

-- two infinities
same_sign : (s t : Bool) → ((s && not t) || beq s t) ≡ true → t ≡ true → s ≡ true
same_sign true t h e = refl
same_sign false true h e = h
same_sign false false h e = e

pub le-chain : (x y z : Float) → le x y ≡ true → le y z ≡ true → le x z ≡ true
unfolding le lt eq
le-chain nan y z h k = h
le-chain (inf s) nan z h k = absurd (false≢true h)
le-chain (inf s) (inf t) nan h k = k
le-chain (inf s) (inf t) (inf u) h k = by s t u h k
  where
    by : (s t u : Bool) → ((s && not t) || beq s t) ≡ true → ((t && not u) || beq t u) ≡ true → ((s && not u) || beq s u) ≡ true
    by true t true h k = refl
    by true t false h k = refl
    by false true u h k = absurd (false≢true h)
    by false false true h k = k
    by false false false h k = refl
le-chain (inf s) (inf t) (fin u p g) h k = none_or s (same_sign s t h (or-none t k))
le-chain (inf s) (fin t n d) nan h k = k
le-chain (inf s) (fin t n d) (inf u) h k = by s u (or-none s h) (or-none (not u) k)
  where
    by : (s u : Bool) → s ≡ true → not u ≡ true → ((s && not u) || beq s u) ≡ true
    by true true a b = refl
    by true false a b = refl
    by false true a b = a
    by false false a b = refl
le-chain (inf s) (fin t n d) (fin u p g) h k = h
le-chain (fin s m e) nan z h k = absurd (false≢true h)
le-chain (fin s m e) (inf t) nan h k = k
le-chain (fin s m e) (inf t) (inf u) h k = by t u (or-none (not t) h) k
  where
    by : (t u : Bool) → not t ≡ true → ((t && not u) || beq t u) ≡ true → (not u || false) ≡ true
    by t false a b = refl
    by false true a b = b
    by true true a b = a
le-chain (fin s m e) (inf t) (fin u p g) h k = clash t (or-none (not t) h) (or-none t k)
  where
    clash : {A : Type 0} (t : Bool) → not t ≡ true → t ≡ true → A
    clash true a b = absurd (false≢true a)
    clash false a b = absurd (false≢true b)
le-chain (fin s m e) (fin t n d) nan h k = k
le-chain (fin s m e) (fin t n d) (inf u) h k = k
le-chain (fin s m e) (fin t n d) (fin u p g) h k =
    most-at s (m * up e * down g) u (p * up g * down e)
    (chained (m * up e) (n * up d) (p * up g) (down e) (down d) (down g) (down_pos e) (down_pos d) (down_pos g) s t u
    (at_most_lem s (m * up e * down d) t (n * up d * down e) h) (at_most_lem t (n * up d * down g) u (p * up g * down d) k))
