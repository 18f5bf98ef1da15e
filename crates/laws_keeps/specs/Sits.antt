-- A block that sits under the lengths r (document 01, 'Announced limits and lengths': the true length may be shorter):
-- four lengths of 1 to r, and as many places as they say. What cutting leaves sits under the limits.
use Rattle.std.specs.Prelude.{◌≡◌, refl, List, ℕ, ◌+◌, ◌-◌, ◌≤◌, ◌<◌, min, max, length}
use Rattle.std.proofs.Common.{sym, ◌∙◌, le_trans, le_refl, arith}
use Rattle.lists.specs.Four.{at, four, at-four, four_same}
use Rattle.model.specs.Header.{count}
use Rattle.model.specs.Limits.{cut_to, max_shape, sum_shape}
use Rattle.model.specs.Poly.{Block, cut}
use Rattle.shape.specs.Cut.{cut-full, cut_at}
use Rattle.shape_words.specs.Spans.{count-one}

pub record Sits (r : List ℕ) (b : Block) : Type 0 where
  pub ns : b.lengths ≡ four (at b.lengths)
  pub lo : (k : ℕ) → k < 4 → 1 ≤ at b.lengths k
  pub hi : (k : ℕ) → k < 4 → at b.lengths k ≤ at r k
  pub full : length b.places ≡ count b.lengths

pub sits-more : {r t : List ℕ} {b : Block} → ((k : ℕ) → k < 4 → at r k ≤ at t k) → Sits r b → Sits t b
sits-more h s = record { ns = s.ns; lo = s.lo; hi = λ k l. le_trans (s.hi k l) (h k l); full = s.full }

-- under its own lengths
pub sits_self : {r : List ℕ} {b : Block} → Sits r b → Sits b.lengths b
sits_self s = record { ns = s.ns; lo = s.lo; hi = λ k l. le_refl _; full = s.full }

pub cut-sits : (l : List ℕ) (b : Block) → ((k : ℕ) → k < 4 → 1 ≤ at l k) → ((k : ℕ) → k < 4 → 1 ≤ at b.lengths k) → Sits l (cut l b)
unfolding cut cut_to
cut-sits l b p q = record {
  ns = refl;
  lo = λ k h. rw (cut_at l b.lengths k h) (omega (arith, p k h, q k h));
  hi = λ k h. rw (cut_at l b.lengths k h) (omega arith);
  full = cut-full l b;
}

-- ---- the lengths of a sum and of a product

pub max-at : (n m : List ℕ) (k : ℕ) → k < 4 → at (max_shape n m) k ≡ max (at n k) (at m k)
unfolding max_shape
max-at n m = at-four (λ k. max (at n k) (at m k))

pub sum_at_lem : (l n m : List ℕ) (k : ℕ) → k < 4 → at (sum_shape l n m) k ≡ min (at l k) (at n k + at m k - 1)
unfolding sum_shape
sum_at_lem l n m = at-four (λ k. min (at l k) (at n k + at m k - 1))

-- beside a count of 1 the other's lengths
pub max-left : {r t : List ℕ} {a b : Block} → Sits r a → Sits t b → count b.lengths ≡ 1 → max_shape a.lengths b.lengths ≡ a.lengths
unfolding max_shape
max-left {a = a} {b = b} s t h =
    four_same (λ k. max (at a.lengths k) (at b.lengths k)) (at a.lengths)
    (λ k l. omega (arith, s.lo k l, count-one b.lengths t.lo h k l)) ∙ sym s.ns

pub max-right : {r t : List ℕ} {a b : Block} → Sits r a → Sits t b → count a.lengths ≡ 1 → max_shape a.lengths b.lengths ≡ b.lengths
unfolding max_shape
max-right {a = a} {b = b} s t h =
    four_same (λ k. max (at a.lengths k) (at b.lengths k)) (at b.lengths)
    (λ k l. omega (arith, t.lo k l, count-one a.lengths s.lo h k l)) ∙ sym t.ns
