-- The test for zero: stored count 1 (document 01, port order 4), which is that all four lengths are 1.
use Rattle.std.specs.Prelude.{ℕ, zero, suc, ◌*◌, ◌≤◌, List, Bool, true, false, ◌&&◌, ◌≡◌, refl, eqb}
use Rattle.std.proofs.Common.{sym, ◌∙◌, arith, mul-one, mul-zero, zero-mul, mul_comm, mul-le-mul_left, eqb-true}
use Rattle.lists.specs.Test.{and_left, and_right}
use Rattle.lists.specs.Four.{at}
use Rattle.model.specs.Header.{count}
use Rattle.shape_words.specs.Lengths.{count-is}

one_left : (a b : ℕ) → a * b ≡ 1 → a ≡ 1
one_left zero b h = absurd (omega (arith, zero-mul b))
one_left (suc zero) b h = refl
one_left (suc (suc a)) zero h = absurd (omega (arith, mul-zero (suc (suc a))))
one_left (suc (suc a)) (suc b) h = let m : suc (suc a) * 1 ≤ suc (suc a) * suc b =
    mul-le-mul_left (suc (suc a)) (omega arith) in
    absurd (omega (arith, mul-one (suc (suc a))))

both : (x y : Bool) → (x ≡ true → y ≡ true) → (y ≡ true → x ≡ true) → x ≡ y
both true y f g = sym (f refl)
both false true f g = g refl
both false false f g = refl

one-test : (a b : ℕ) → (eqb a 1 && eqb b 1) ≡ eqb (a * b) 1
one-test a b =
    both (eqb a 1 && eqb b 1) (eqb (a * b) 1)
    (λ t. rw (eqb-true a 1 (and_left (eqb a 1) (eqb b 1) t), eqb-true b 1 (and_right (eqb a 1) (eqb b 1) t)))
    (λ t. let h = eqb-true (a * b) 1 t in rw (one_left a b h, one_left b a (mul_comm b a ∙ h)))

and_assoc : (a b c d : Bool) → (((a && b) && c) && d) ≡ (a && (b && (c && d)))
and_assoc true true c d = refl
and_assoc true false c d = refl
and_assoc false b c d = refl

pub count-test : (n : List ℕ) → (((eqb (at n 0) 1 && eqb (at n 1) 1) && eqb (at n 2) 1) && eqb (at n 3) 1) ≡ eqb (count n) 1
count-test n =
    and_assoc (eqb (at n 0) 1) (eqb (at n 1) 1) (eqb (at n 2) 1) (eqb (at n 3) 1)
    ∙ rw (count-is n, one-test (at n 2) (at n 3), one-test (at n 1) (at n 2 * at n 3), one-test (at n 0) (at n 1 * (at n 2 * at n 3)))
