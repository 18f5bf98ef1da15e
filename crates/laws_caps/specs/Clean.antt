-- 17 (document 02, W10): anything but +0.0 at or past the cap. What an operation makes has none; and one place there
-- with another word is enough to be found, a NaN, -0.0 and the least float too.
use Rattle.std.specs.Prelude.{◌≡◌, Bool, ◌&&◌, ◌||◌, List, ℕ, zero, suc, ◌+◌, ◌^◌, ◌≤◌, ◌<◌, get_or, Float}
use Rattle.std.proofs.Math.Path.{refl}
use Rattle.std.proofs.Math.Bool.{true, false}
use Rattle.std.proofs.Common.{arith, eqb-true}
use Rattle.std.proofs.Math.Dec.{eqb}
use Rattle.std.specs.Float.{nan, binary64}
use Rattle.std.specs.Float.Ieee.{to_bits, of_bits}
use Rattle.std.proofs.lemmas.Bool.{eqb-false}
use Rattle.lists.specs.Test.{decide, or_intro}
use Rattle.lists.specs.Every.{every}
use Rattle.model.specs.Header.{count}
use Rattle.model.specs.Places.{index}
use Rattle.model.specs.Refusals.{zero_f}
use Rattle.model_caps.specs.Cap.{under_cap, capped_places, clean_place, clean}
use Rattle.laws_caps.specs.Capped.{capped_at_lem}

-- ---- a test of every place

every_true : {f : ℕ → Bool} (n p : ℕ) → ((q : ℕ) → q < p + n → f q ≡ true) → every f n p ≡ true
unfolding every
every_true zero p h = refl
every_true (suc n) p h = rw (h p (omega arith), every_true n (suc p) (λ q l. h q (omega arith)))

none_left : (x : Bool) → (x && false) ≡ false
none_left true = refl
none_left false = refl

every-false : (f : ℕ → Bool) (n p q : ℕ) → p ≤ q → q < p + n → f q ≡ false → every f n p ≡ false
unfolding every
every-false f zero p q a b h = absurd (omega arith)
every-false f (suc n) p q a b h =
    decide (eqb p q)
    (λ t. rw (eqb-true p q t, h))
    (λ t. rw (every-false f n (suc p) q (apart p q a (eqb-false p q t)) (omega arith) h) (none_left (f p)))
  where
    apart : (p q : ℕ) → p ≤ q → (p ≡ q → ⊥) → suc p ≤ q
    apart p q a e = omega arith

-- ---- what an operation makes

zero_bits : to_bits binary64 zero_f ≡ 0
unfolding to_bits of_bits
zero_bits = refl

module _ (c : ℕ) (n : List ℕ) (xs : List Float) where
  place-clean : (p : ℕ) → p < count n → clean_place c n (capped_places c n xs) p ≡ true
  place-clean p h =
      decide (under_cap c (index n p))
      (λ t. rw t)
      (λ t. rw (capped_at_lem c n xs p h, t, zero_bits))

  pub capped-clean : clean c n (capped_places c n xs) ≡ true
  unfolding clean
  capped-clean = or_intro (eqb c 0) _ (λ t. every_true (count n) 0 (λ q l. place-clean q (omega arith)))

  -- ---- what is found

  pub found : (p : ℕ) → p < count n → under_cap c (index n p) ≡ false → eqb (to_bits binary64 (get_or xs p nan)) 0 ≡ false → clean c n xs ≡ false
  unfolding clean
  found p h u w =
      let e : eqb c 0 ≡ false = no-cap (eqb c 0) _ u in
      rw e (every-false (clean_place c n xs) (count n) 0 p (omega arith) (omega arith) (rw (u, w)))
    where
      no-cap : (a b : Bool) → (a || b) ≡ false → a ≡ false
      no-cap true b o = o
      no-cap false b o = refl

-- -0.0, the least float above zero, and NaN
pub minus-found : eqb (to_bits binary64 (of_bits binary64 (2 ^ 63))) 0 ≡ false
unfolding to_bits of_bits
minus-found = refl

pub least-found : eqb (to_bits binary64 (of_bits binary64 1)) 0 ≡ false
unfolding to_bits of_bits
least-found = refl

pub nan-found : eqb (to_bits binary64 nan) 0 ≡ false
unfolding to_bits
nan-found = refl
