-- Laws of tests: `&&`, `||`, and going by the two cases of a test.
use Rattle.std.specs.Prelude.{Bool, true, false, ◌&&◌, ◌||◌, cond, ◌≡◌, refl}
use Rattle.std.proofs.Common.{sym}

pub and_left : (a b : Bool) → (a && b) ≡ true → a ≡ true
and_left true b h = refl
and_left false b h = h

pub and_right : (a b : Bool) → (a && b) ≡ true → b ≡ true
and_right true b h = h
and_right false true h = refl
and_right false false h = h

pub or_right : (a b : Bool) → (a || b) ≡ true → a ≡ false → b ≡ true
or_right true true h e = refl
or_right true false h e = sym e
or_right false b h e = h

pub or_intro : (a b : Bool) → (a ≡ false → b ≡ true) → (a || b) ≡ true
or_intro true b h = refl
or_intro false b h = h refl

-- by the two cases of a test
pub decide {ℓ} : {P : Type ℓ} (b : Bool) → (b ≡ true → P) → (b ≡ false → P) → P
decide true f g = f refl
decide false f g = g refl

-- a property of both choices is one of the chosen
pub of-both {ℓ κ} : {A : Type ℓ} (P : A → Type κ) (b : Bool) {x y : A} → P x → P y → P (cond b x y)
of-both P true p q = p
of-both P false p q = q

-- a relation of both choices, each to each
pub of-each {ℓ κ} : {A : Type ℓ} (R : A → A → Type κ) (b : Bool) {x y x' y' : A} → R x x' → R y y' → R (cond b x y) (cond b x' y')
of-each R true p q = p
of-each R false p q = q
