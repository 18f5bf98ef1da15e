-- Laws of limits: the smaller limits of two headers that keep the rules keep them, and cutting keeps what lies inside.
use Rattle.std.specs.Prelude.{ℕ, ◌-◌, ◌≤◌, ◌<◌, min, max, ◌≡◌, refl, ltb}
use Rattle.std.proofs.Common.{◌∙◌, arith, le-ltb}
use Rattle.lists.specs.Test.{of-both}
use Rattle.lists.specs.Four.{at, each}
use Rattle.model.specs.declared.Header.{Header}
use Rattle.model.specs.Header.{limit}
use Rattle.model.specs.Limits.{min_limit, min_degrees_p1}
use Rattle.shape_words.specs.Rules.{GoodVar, Ruled, ruled-at}

-- a number of 1 to 64
pub record Range (x : ℕ) : Type 0 where
  pub lo : 1 ≤ x
  pub hi : x ≤ 64

limit-range : {v k l n : ℕ} → GoodVar v k l n → Range l
limit-range g = record { lo = omega arith; hi = g.most }

min_limit-range : (v w k : ℕ) {l m : ℕ} → Range l → Range m → Range (min_limit v w k l m)
unfolding min_limit
min_limit-range v w k {l} {m} p q =
    let r : Range (min l m) = record { lo = omega arith; hi = omega arith } in
    of-both Range (ltb k v) (of-both Range (ltb k w) r p) q

pub min_degrees-at : (a b : Header) (k : ℕ) → k < 4 → at (min_degrees_p1 a b) k ≡ min_limit a.vars b.vars k (limit a k) (limit b k)
unfolding min_degrees_p1
min_degrees-at a b = each (λ k. at (min_degrees_p1 a b) k ≡ min_limit a.vars b.vars k (limit a k) (limit b k)) refl refl refl refl

pub min_degrees-range : (a b : Header) → Ruled a → Ruled b → (k : ℕ) → k < 4 → Range (at (min_degrees_p1 a b) k)
min_degrees-range a b g h k l =
    rw (min_degrees-at a b k l) (min_limit-range a.vars b.vars k (limit-range (ruled-at g k l))
    (limit-range (ruled-at h k l)))

pub min_limit-pos : (a b : Header) → Ruled a → Ruled b → (k : ℕ) → k < 4 → 1 ≤ at (min_degrees_p1 a b) k
min_limit-pos a b g h k l = (min_degrees-range a b g h k l).lo

-- a variable that both lack
pub min_degrees-gone : (a b : Header) → Ruled a → Ruled b → (k : ℕ) → k < 4 → max a.vars b.vars ≤ k → at (min_degrees_p1 a b) k ≡ 1
unfolding min_limit
min_degrees-gone a b g h k l m =
    let p : a.vars ≤ k = omega arith in
    min_degrees-at a b k l ∙ ((simp (le-ltb _ _ p)) ∙ (ruled-at h k l).gone (omega arith))
