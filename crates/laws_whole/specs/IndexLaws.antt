-- The laws of indices: sums, differences and degrees, variable by variable, of an index that is within another.
use Rattle.std.specs.Prelude.{◌≡◌, refl, List, [], ◌∷◌, ℕ, zero, suc, ◌+◌, ◌-◌, ◌≤◌, ◌<◌, length}
use Rattle.std.proofs.Common.{ap, ap₂, ◌∙◌, suc-le-suc, le_refl, zero-lt-suc, le_of_suc-le-suc, arith}
use Rattle.std.proofs.Math.Nat.{suc_inj, sub_self}
use Rattle.lists.specs.Four.{at, four}
use Rattle.model_textbook.specs.Box.{up_to, index_plus, index_minus, degree}
use Rattle.model_textbook.specs.Textbook.{origin}
use Rattle.laws_whole.specs.Index.{InBox, Within}

pub within-up_to : (j k : List ℕ) → InBox j (up_to k) → Within j k
unfolding up_to
within-up_to j [] InBox.none = Within.none
within-up_to j (k ∷ ks) (InBox.more {i = i} {j = js} l u) = let h : i ≤ k = omega arith in Within.more h (within-up_to js ks u)

pub up_to-within : {j k : List ℕ} → Within j k → InBox j (up_to k)
unfolding up_to
up_to-within Within.none = InBox.none
up_to-within (Within.more {i = i} {n = n} l u) = let h : i < suc n = omega arith in InBox.more h (up_to-within u)

pub within_self : (k : List ℕ) → Within k k
within_self [] = Within.none
within_self (k ∷ ks) = Within.more (le_refl k) (within_self ks)

pub within-length : {j k : List ℕ} → Within j k → length j ≡ length k
within-length Within.none = refl
within-length (Within.more l u) = ap suc (within-length u)

pub in-box-length : {j ns : List ℕ} → InBox j ns → length j ≡ length ns
in-box-length InBox.none = refl
in-box-length (InBox.more l u) = ap suc (in-box-length u)

-- place by place
pub in-box-at : {j ns : List ℕ} → InBox j ns → (v : ℕ) → v < length ns → at j v < at ns v
in-box-at InBox.none v h = absurd (omega (arith, h))
in-box-at (InBox.more l u) zero h = l
in-box-at (InBox.more l u) (suc v) h = in-box-at u v (le_of_suc-le-suc h)

pub at_in-box : (j ns : List ℕ) → length j ≡ length ns → ((v : ℕ) → v < length ns → at j v < at ns v) → InBox j ns
at_in-box [] [] e h = InBox.none
at_in-box [] (n ∷ ns) e h = absurd (omega (arith, e))
at_in-box (i ∷ j) [] e h = absurd (omega (arith, e))
at_in-box (i ∷ j) (n ∷ ns) e h = InBox.more (h 0 (zero-lt-suc _)) (at_in-box j ns (suc_inj e) (λ v l. h (suc v) (suc-le-suc l)))

-- ---- differences

pub minus-within : (k j : List ℕ) → Within (index_minus k j) k
unfolding index_minus
minus-within [] j = Within.none
minus-within (k ∷ ks) [] = within_self (k ∷ ks)
minus-within (k ∷ ks) (j ∷ js) = let h : k - j ≤ k = omega arith in Within.more h (minus-within ks js)

pub minus_minus : {j k : List ℕ} → Within j k → index_minus k (index_minus k j) ≡ j
unfolding index_minus
minus_minus Within.none = refl
minus_minus (Within.more {i = i} {n = n} {j = j} {k = k} l u) =
    let e : n - (n - i) ≡ i = omega arith in
    ap₂ ◌∷◌ e (minus_minus u)

pub up_to-minus : {j k : List ℕ} → Within j k → index_minus (up_to k) j ≡ up_to (index_minus k j)
unfolding up_to index_minus
up_to-minus Within.none = refl
up_to-minus (Within.more {i = i} {n = n} l u) =
    let e : suc n - i ≡ suc (n - i) = omega arith in
    ap₂ ◌∷◌ e (up_to-minus u)

pub minus-length : (k j : List ℕ) → length (index_minus k j) ≡ length k
unfolding index_minus
minus-length [] j = refl
minus-length (k ∷ ks) [] = refl
minus-length (k ∷ ks) (j ∷ js) = ap suc (minus-length ks js)

-- i, and d more
pub add-minus : (i d : List ℕ) → length d ≡ length i → index_minus (index_plus i d) i ≡ d
unfolding index_plus index_minus
add-minus [] [] h = refl
add-minus [] (d ∷ ds) h = absurd (omega (arith, h))
add-minus (i ∷ is) [] h = absurd (omega (arith, h))
add-minus (i ∷ is) (d ∷ ds) h =
    let s : i + d - i ≡ d = omega arith in
    ap₂ ◌∷◌ s (add-minus is ds (suc_inj h))

pub minus-add : (k i d : List ℕ) → length i ≡ length k → length d ≡ length i → index_minus k (index_plus i d) ≡ index_minus (index_minus k i) d
unfolding index_plus index_minus
minus-add [] i d h e = refl
minus-add (k ∷ ks) [] d h e = absurd (omega (arith, h))
minus-add (k ∷ ks) (i ∷ is) [] h e = absurd (omega (arith, e))
minus-add (k ∷ ks) (i ∷ is) (d ∷ ds) h e =
    let s : k - (i + d) ≡ k - i - d = omega arith in
    ap₂ ◌∷◌ s (minus-add ks is ds (suc_inj h) (suc_inj e))

-- ---- degrees

pub degree-minus : {j k : List ℕ} → Within j k → degree j + degree (index_minus k j) ≡ degree k
unfolding degree index_minus
degree-minus Within.none = refl
degree-minus (Within.more {i = i} {n = n} {j = j} {k = k} l u) = omega (arith, degree-minus u)

-- nothing left: all of it
pub degree-none : {j k : List ℕ} → Within j k → degree (index_minus k j) ≡ 0 → j ≡ k
unfolding degree index_minus
degree-none Within.none h = refl
degree-none (Within.more {i = i} {n = n} {j = j} {k = k} l u) h =
    let e : i ≡ n = omega arith in
    ap₂ ◌∷◌ e (degree-none u (omega arith))

pub degree_self : (k : List ℕ) → degree (index_minus k k) ≡ 0
unfolding degree index_minus
degree_self [] = refl
degree_self (k ∷ ks) = omega (arith, degree_self ks)

-- ---- four variables

-- a list of four numbers, by its places
pub four_at_lem : (l : List ℕ) → length l ≡ 4 → l ≡ four (at l)
four_at_lem (a ∷ b ∷ c ∷ d ∷ []) h = refl
four_at_lem [] h = absurd (omega (arith, h))
four_at_lem (a ∷ []) h = absurd (omega (arith, h))
four_at_lem (a ∷ b ∷ []) h = absurd (omega (arith, h))
four_at_lem (a ∷ b ∷ c ∷ []) h = absurd (omega (arith, h))
four_at_lem (a ∷ b ∷ c ∷ d ∷ e ∷ l) h = absurd (omega (arith, h))

-- nothing left: the index of the constant
pub minus_self : (k : List ℕ) → length k ≡ 4 → index_minus k k ≡ origin
unfolding index_minus
minus_self k h = ap (λ (l : List ℕ). index_minus l l) (four_at_lem k h) ∙ simp sub_self
