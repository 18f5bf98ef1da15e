-- Document 01, 'What each answer owes': the promise admits one outcome. A promise says of the answer, and of each lent
-- buffer as it is left, that it is a definition's value at the arguments: so two outcomes that keep it are equal. The
-- laws below it, one a promise, are these for as many values as it fixes; a promise weakened to less than an equation
-- has no such law.
-- The exception is NaN bits: in the logic all NaNs are one value, so equal floats that are NaN may differ in their
-- bits. No definition reads them.
use Rattle.std.specs.Prelude.{◌≡◌}
use Rattle.std.proofs.Common.{sym, ◌∙◌}

pub once_1 : {A : Type 0} {x r1 r2 : A} → r1 ≡ x → r2 ≡ x → r1 ≡ r2
once_1 p q = p ∙ sym q

pub once_2 : {A B : Type 0} {x r1 r2 : A} {y o1 o2 : B} → (r1 ≡ x) × (o1 ≡ y) → (r2 ≡ x) × (o2 ≡ y) → (r1 ≡ r2) × (o1 ≡ o2)
once_2 p q = (once_1 p.0 q.0, once_1 p.1 q.1)

pub once_3 : {A B C : Type 0} {x r1 r2 : A} {y o1 o2 : B} {z s1 s2 : C} → (r1 ≡ x) × ((o1 ≡ y) × (s1 ≡ z))
    → (r2 ≡ x) × ((o2 ≡ y) × (s2 ≡ z)) → (r1 ≡ r2) × ((o1 ≡ o2) × (s1 ≡ s2))
once_3 p q = (once_1 p.0 q.0, once_2 p.1 q.1)

pub once_4 : {A B C D : Type 0} {x r1 r2 : A} {y o1 o2 : B} {z s1 s2 : C} {u t1 t2 : D} → (r1 ≡ x) × ((o1 ≡ y) × ((s1 ≡ z) × (t1 ≡ u)))
    → (r2 ≡ x) × ((o2 ≡ y) × ((s2 ≡ z) × (t2 ≡ u))) → (r1 ≡ r2) × ((o1 ≡ o2) × ((s1 ≡ s2) × (t1 ≡ t2)))
once_4 p q = (once_1 p.0 q.0, once_3 p.1 q.1)

pub once_5 : {A B C D E : Type 0} {x r1 r2 : A} {y o1 o2 : B} {z s1 s2 : C} {u t1 t2 : D} {v e1 e2 : E}
    → (r1 ≡ x) × ((o1 ≡ y) × ((s1 ≡ z) × ((t1 ≡ u) × (e1 ≡ v)))) → (r2 ≡ x) × ((o2 ≡ y) × ((s2 ≡ z) × ((t2 ≡ u) × (e2 ≡ v))))
    → (r1 ≡ r2) × ((o1 ≡ o2) × ((s1 ≡ s2) × ((t1 ≡ t2) × (e1 ≡ e2))))
once_5 p q = (once_1 p.0 q.0, once_4 p.1 q.1)
