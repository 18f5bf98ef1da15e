-- Limits and caps of results in another order (document 02, W11): a variable that one operand lacks takes the other's
-- limit, and 0 is no cap; both are a least number of those that are there, so they commute, associate, and a limit
-- counts once however often it comes in.
use Rattle.std.specs.Prelude.{ℕ, ◌≤◌, min, max, Bool, true, false, ◌||◌, cond, ◌≡◌, refl, ltb, eqb}
use Rattle.std.proofs.Common.{sym, ◌∙◌, arith, ltb-true, ltb-false, lt-ltb, le-ltb, eqb-true}
use Rattle.std.proofs.lemmas.Bool.{eqb-false}
use Rattle.lists.specs.Test.{decide}
use Rattle.model.specs.Limits.{min_limit}
use Rattle.model.specs.Cap.{min_cap}

-- ---- limits: v, w, x numbers of variables, l, m, n limits of the variable k

both : (k v w : ℕ) → ltb k (max v w) ≡ (ltb k v || ltb k w)
both k v w =
    decide (ltb k v)
    (λ t. rw t (lt-ltb k (max v w) (omega (arith, ltb-true k v t))))
    (λ t. decide (ltb k w)
    (λ u. rw (t, u) (lt-ltb k (max v w) (omega (arith, ltb-true k w u))))
    (λ u. rw (t, u) (le-ltb k (max v w) (omega (arith, ltb-false k v t, ltb-false k w u)))))

-- by whether the variable is there
least : Bool → Bool → ℕ → ℕ → ℕ
least a b l m = cond a (cond b (min l m) l) m

min_comm : (l m : ℕ) → min l m ≡ min m l
min_comm l m = omega arith

min_assoc : (l m n : ℕ) → min (min l m) n ≡ min l (min m n)
min_assoc l m n = omega arith

least-comm : (a b : Bool) (l m : ℕ) → (a ≡ false → l ≡ 1) → (b ≡ false → m ≡ 1) → least a b l m ≡ least b a m l
unfolding least
least-comm true true l m p q = min_comm l m
least-comm true false l m p q = refl
least-comm false true l m p q = refl
least-comm false false l m p q = q refl ∙ sym (p refl)

least-assoc : (a b c : Bool) (l m n : ℕ) → least (a || b) c (least a b l m) n ≡ least a (b || c) l (least b c m n)
unfolding least
least-assoc true true true l m n = min_assoc l m n
least-assoc true true false l m n = refl
least-assoc true false true l m n = refl
least-assoc true false false l m n = refl
least-assoc false true true l m n = refl
least-assoc false true false l m n = refl
least-assoc false false true l m n = refl
least-assoc false false false l m n = refl

-- one of them twice
least_spread : (a b c : Bool) (l m n : ℕ) → least a (b || c) l (least b c m n) ≡ least (a || b) (a || c) (least a b l m) (least a c l n)
unfolding least
least_spread true true true l m n = omega arith
least_spread true true false l m n = omega arith
least_spread true false true l m n = omega arith
least_spread true false false l m n = omega arith
least_spread false true true l m n = refl
least_spread false true false l m n = refl
least_spread false false true l m n = refl
least_spread false false false l m n = refl

is-least : (v w k l m : ℕ) → min_limit v w k l m ≡ least (ltb k v) (ltb k w) l m
unfolding min_limit least
is-least v w k l m = refl

pub limit-comm : (v w k l m : ℕ) → (v ≤ k → l ≡ 1) → (w ≤ k → m ≡ 1) → min_limit v w k l m ≡ min_limit w v k m l
limit-comm v w k l m p q =
    is-least v w k l m ∙ least-comm (ltb k v) (ltb k w) l m (λ t. p (ltb-false k v t)) (λ t. q (ltb-false k w t)) ∙ sym (is-least w v k m l)

pub limit-assoc : (v w x k l m n : ℕ) → min_limit (max v w) x k (min_limit v w k l m) n ≡ min_limit v (max w x) k l (min_limit w x k m n)
unfolding min_limit least
limit-assoc v w x k l m n =
    rw (both k v w, both k w x) (least-assoc (ltb k v) (ltb k w) (ltb k x) l m n)

pub limit_spread : (v w x k l m n : ℕ)
    → min_limit v (max w x) k l (min_limit w x k m n) ≡ min_limit (max v w) (max v x) k (min_limit v w k l m) (min_limit v x k l n)
unfolding min_limit least
limit_spread v w x k l m n = rw (both k w x, both k v w, both k v x) (least_spread (ltb k v) (ltb k w) (ltb k x) l m n)

-- ---- caps: 0 is none

pub cap-comm : (a b : ℕ) → min_cap a b ≡ min_cap b a
unfolding min_cap
cap-comm a b =
    decide (eqb a 0)
    (λ t. rw t (decide (eqb b 0) (λ u. rw u (eqb-true b 0 u ∙ sym (eqb-true a 0 t))) (λ u. rw u)))
    (λ t. rw t (decide (eqb b 0) (λ u. rw u) (λ u. rw u (min_comm a b))))

-- the least of what is there is there
some : (a b : ℕ) → eqb a 0 ≡ false → eqb b 0 ≡ false → eqb (min a b) 0 ≡ false
some a b t u =
    decide (eqb (min a b) 0)
    (λ z. absurd (decide (ltb a b)
    (λ o. eqb-false a 0 t (omega (arith, eqb-true (min a b) 0 z, ltb-true a b o)))
    (λ o. eqb-false b 0 u (omega (arith, eqb-true (min a b) 0 z, ltb-false a b o)))))
    (λ z. z)

pub cap-assoc : (a b c : ℕ) → min_cap (min_cap a b) c ≡ min_cap a (min_cap b c)
unfolding min_cap
cap-assoc a b c =
    decide (eqb a 0)
    (λ t. rw t)
    (λ t. rw t (decide (eqb b 0)
    (λ u. rw u (rw t))
    (λ u. rw (u, some a b t u) (decide (eqb c 0)
    (λ w. rw w (rw u))
    (λ w. rw (w, some b c u w) (min_assoc a b c))))))

pub cap_spread : (a b c : ℕ) → min_cap a (min_cap b c) ≡ min_cap (min_cap a b) (min_cap a c)
unfolding min_cap
cap_spread a b c =
    decide (eqb a 0)
    (λ t. rw t)
    (λ t. rw t (decide (eqb b 0)
    (λ u. rw u (rw t (decide (eqb c 0) (λ w. rw w (rw t (omega arith))) (λ w. rw (w, some a c t w) (omega arith)))))
    (λ u. rw (u, some a b t u) (decide (eqb c 0)
    (λ w. rw w (rw (u, t) (omega arith)))
    (λ w. rw (w, some b c u w, some a c t w) (omega arith))))))
