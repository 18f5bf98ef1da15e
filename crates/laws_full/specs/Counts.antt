-- Full lengths, counted up to 2^32, beside lengths of any size: a full length is the length itself, or 2^32. Rule by
-- rule.
use Rattle.std.specs.Prelude.{ℕ, ◌+◌, ◌-◌, ◌*◌, ◌≤◌, ◌<◌, max, false, ◌≡◌, refl, eqb}
use Rattle.std.proofs.Common.{sym, ◌∙◌, arith, eqb-true, ne_eqb}
use Rattle.std.proofs.lemmas.Bool.{eqb-false}
use Rattle.lists.specs.Test.{decide}
use Rattle.model_texts.specs.Full.{many, counted, sum_full, product_full, power_full, shift_full, substitution_full}

-- f stands for the length e
pub data Counts (f e : ℕ) : Type 0 where
  exact : 1 ≤ e → e ≤ many → f ≡ e → Counts f e
  past : 1 ≤ e → f ≡ many → Counts f e

pub counts_some : {f e : ℕ} → Counts f e → 1 ≤ f
counts_some (exact s m i) = omega arith
counts_some (past s i) = omega arith

pub counts-length : {f e : ℕ} → Counts f e → 1 ≤ e
counts-length (exact s m i) = s
counts-length (past s i) = s

-- what is below 2^32 is the length
pub counts-is : {f e : ℕ} → Counts f e → f < many → f ≡ e
counts-is (exact s m i) h = i
counts-is (past s i) h = absurd (omega arith)

-- counted once more
pub counts-counted : {f e : ℕ} → Counts f e → Counts (counted f) e
counts-counted (exact s m i) = exact s m (omega arith)
counts-counted (past s i) = past s (omega arith)

counts_same : {g e : ℕ} → 1 ≤ e → g ≡ e → Counts (counted g) e
counts_same {g} {e} s i =
    decide (eqb (counted g) many) (λ t. past s (eqb-true _ _ t))
    (λ t. let o = eqb-false (counted g) many t in exact s (omega arith) (omega arith))

counts_past : {g e : ℕ} → 1 ≤ e → many ≤ g → Counts (counted g) e
counts_past s h = past s (omega arith)

pub counts-one : Counts 1 1
counts-one = exact (omega arith) (omega arith) refl

-- a length of a header
pub counts-small : (e : ℕ) → 1 ≤ e → e ≤ 64 → Counts (counted e) e
counts-small e h l = exact h (omega arith) (omega arith)

not_none : {f : ℕ} → 1 ≤ f → eqb f 0 ≡ false
not_none {f} h = ne_eqb f 0 (λ e. omega arith)

-- ---- sum and product

module _ {f g a b : ℕ} (p : Counts f a) (q : Counts g b) where
  some_f : eqb f 0 ≡ false
  some_f = not_none (counts_some p)

  some-g : eqb g 0 ≡ false
  some-g = not_none (counts_some q)

larger : {f g a b : ℕ} → Counts f a → Counts g b → Counts (max f g) (max a b)
larger (exact s m i) (exact t n j) = exact (omega arith) (omega arith) (omega arith)
larger (exact s m i) (past t j) = past (omega arith) (omega arith)
larger (past s i) (exact t n j) = past (omega arith) (omega arith)
larger (past s i) (past t j) = past (omega arith) (omega arith)

together : {f g a b : ℕ} → Counts f a → Counts g b → Counts (counted (f + g - 1)) (a + b - 1)
together (exact s m i) (exact t n j) = counts_same (omega arith) (omega arith)
together (exact s m i) (past t j) = counts_past (omega arith) (omega arith)
together (past s i) (exact t n j) = counts_past (omega arith) (omega arith)
together (past s i) (past t j) = counts_past (omega arith) (omega arith)

pub counts-sum : {f g a b : ℕ} → Counts f a → Counts g b → Counts (sum_full f g) (max a b)
unfolding sum_full
counts-sum p q = rw (some_f p q, some-g p q) (larger p q)

pub counts-product : {f g a b : ℕ} → Counts f a → Counts g b → Counts (product_full f g) (a + b - 1)
unfolding product_full
counts-product p q = rw (some_f p q, some-g p q) (together p q)

-- ---- power

raised : (e : ℕ) {f a : ℕ} → 1 ≤ e → Counts f a → Counts (counted (e * (f - 1) + 1)) (e * (a - 1) + 1)
raised e h (exact s m i) = counts_same (omega arith) (rw i)
raised e {f} h (past s i) = counts_past (omega arith) (rw i (omega arith))

pub counts-power : (e : ℕ) {f a : ℕ} → (eqb e 0 ≡ false → Counts f a) → Counts (power_full e f) (e * (a - 1) + 1)
unfolding power_full
counts-power e {f} {a} h =
    decide (eqb e 0)
    (λ t. let z : e * (a - 1) + 1 ≡ 1 = rw (eqb-true e 0 t) (omega arith) in rw (t, z) counts-one)
    (λ t. let o = eqb-false e 0 t in let p = h t in rw (t, not_none (counts_some p)) (raised e (omega arith) p))

-- ---- shift

pub counts-shift : (n : ℕ) {f a : ℕ} → Counts f a → Counts (shift_full n f) (max 1 (a - n))
unfolding shift_full
counts-shift n {f} {a} p =
    decide (eqb f many)
    (λ t. rw (t, not_none (counts_some p)) (past (omega arith) (eqb-true _ _ t)))
    (λ t. rw (t, not_none (counts_some p)) (lower p (eqb-false _ _ t)))
  where
    lower : Counts f a → (f ≡ many → ⊥) → Counts (max 1 (f - n)) (max 1 (a - n))
    lower (exact s m i) o = exact (omega arith) (omega arith) (omega arith)
    lower (past s i) o = absurd (o i)

-- ---- substitution

put : {x y z p a b : ℕ} → Counts x p → Counts y a → Counts z b → (x ≡ 1 → ⊥) → (z ≡ 1 → ⊥)
    → Counts (counted (y + (x - 1) * (z - 1))) (a + (p - 1) * (b - 1))
put (exact s m i) (exact t n j) (exact u l k) d e = counts_same (omega arith) (rw (i, j, k))
put (exact s m i) (past t j) (exact u l k) d e = counts_past (omega arith) (rw j (omega arith))
put (exact s m i) (past t j) (past u k) d e = counts_past (omega arith) (rw j (omega arith))
put (past s i) (past t j) r d e = counts_past (omega arith) (rw j (omega arith))
put {x} {y} {z} (exact s m i) (exact t n j) (past u k) d e = counts_past (omega arith) (rw k (omega arith))
put {x} {y} {z} (past s i) (exact t n j) r d e = let h = counts_some r in counts_past (omega arith) (rw i (omega arith))

pub counts_substitution : {x y z p a b : ℕ} → Counts x p → Counts y a → (eqb x 1 ≡ false → Counts z b)
    → Counts (substitution_full x y z) (a + (p - 1) * (b - 1))
unfolding substitution_full
counts_substitution {x} {y} {z} {p} {a} {b} f g h =
    decide (eqb x 1)
    (λ t.
    let k : p ≡ 1 = sym (counts-is f (omega (arith, eqb-true x 1 t))) ∙ eqb-true x 1 t in
    let e : a + (p - 1) * (b - 1) ≡ a = rw k (omega arith) in
    rw (t, e) g)
    (λ t.
    decide (eqb z 1)
    (λ u.
    let k : b ≡ 1 = sym (counts-is (h t) (omega (arith, eqb-true z 1 u))) ∙ eqb-true z 1 u in
    let e : a + (p - 1) * (b - 1) ≡ a = rw k (omega arith) in
    rw (t, u, e) g)
    (λ u.
    rw (t, u, not_none (counts_some f), not_none (counts_some g), not_none (counts_some (h t)))
    (put f g (h t) (eqb-false _ _ t) (eqb-false _ _ u))))
