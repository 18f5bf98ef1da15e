-- Lengths whose product is 1 (document 01, port order 3 and 4: stored count 1; exactly one length above 1): each of
-- them is 1.
use Rattle.std.specs.Prelude.{◌≡◌, refl, List, ℕ, zero, suc, ◌+◌, ◌*◌, ◌≤◌, ◌<◌, eqb}
use Rattle.std.proofs.Common.{◌∙◌, mul-one, mul-pos, mul_comm, mul-le-mul_left, arith, eqb-true}
use Rattle.std.proofs.lemmas.Bool.{eqb-false}
use Rattle.lists.specs.Test.{decide}
use Rattle.lists.specs.Four.{at}
use Rattle.model.specs.Header.{span, count}

one_left : (a b : ℕ) → 1 ≤ a → 1 ≤ b → a * b ≡ 1 → a ≡ 1
one_left a b p q h = let m : a * 1 ≤ a * b = mul-le-mul_left a q in omega (arith, mul-one a)

pub span-ones : (l : List ℕ) (n v : ℕ) → ((w : ℕ) → v ≤ w → w < v + n → at l w ≡ 1) → span l n v ≡ 1
unfolding span
span-ones l zero v h = refl
span-ones l (suc n) v h = rw (h v (omega arith) (omega arith), span-ones l n (suc v) (λ w p q. h w (omega arith) (omega arith)))

pub span_pos : (l : List ℕ) (n v : ℕ) → ((w : ℕ) → v ≤ w → w < v + n → 1 ≤ at l w) → 1 ≤ span l n v
unfolding span
span_pos l zero v h = omega arith
span_pos l (suc n) v h = mul-pos (h v (omega arith) (omega arith)) (span_pos l n (suc v) (λ w p q. h w (omega arith) (omega arith)))

-- lengths whose product is 1 are 1
pub ones-of-span : (l : List ℕ) (n v : ℕ) → ((w : ℕ) → v ≤ w → w < v + n → 1 ≤ at l w) → span l n v ≡ 1 → (w : ℕ) → v ≤ w → w < v + n → at l w ≡ 1
unfolding span
ones-of-span l zero v h e w p q = absurd (omega arith)
ones-of-span l (suc n) v h e w p q =
    let a = h v (omega arith) (omega arith) in
    let t : (w : ℕ) → suc v ≤ w → w < suc v + n → 1 ≤ at l w = λ w p q. h w (omega arith) (omega arith) in
    let b = span_pos l n (suc v) t in
    decide (eqb w v)
    (λ i. let j : w ≡ v = eqb-true w v i in rw j (one_left (at l v) (span l n (suc v)) a b e))
    (λ i. ones-of-span l n (suc v) t (one_left (span l n (suc v)) (at l v) b a
    (mul_comm (span l n (suc v)) (at l v) ∙ e)) w (omega (arith, eqb-false w v i)) (omega arith))

-- of four lengths
pub count-one : (n : List ℕ) → ((k : ℕ) → k < 4 → 1 ≤ at n k) → count n ≡ 1 → (k : ℕ) → k < 4 → at n k ≡ 1
count-one n p h k l = ones-of-span n 4 0 (λ w a b. p w (omega arith)) h k (omega arith) (omega arith)
