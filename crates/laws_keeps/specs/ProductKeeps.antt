-- What a product owes of its header (document 01, 'Announced limits and lengths', product): exactly the announced
-- limits, no length above the announced one, and as many coefficients as the true header says; on every shortcut.
use Rattle.std.specs.Prelude.{◌≡◌, refl, false, ◌||◌, cond, List, ℕ, zero, suc, ◌+◌, ◌≤◌, ◌<◌, min, eqb, length, set, Float}
use Rattle.std.proofs.Common.{sym, ap, ◌∙◌, le_trans, arith, lit<}
use Rattle.std.proofs.Math.Nat.{le_refl}
use Rattle.std.specs.Float.Ieee.{eq}
use Rattle.lists.specs.Test.{of-both}
use Rattle.lists.specs.Table.{length-table}
use Rattle.lists.specs.Four.{at, four, each, at-four, one-changed, long}
use Rattle.model.specs.declared.Linear.{Linear}
use Rattle.model.specs.declared.Family.TheVariants.{Product}
use Rattle.model.specs.Header.{count, ones, span}
use Rattle.model.specs.Limits.{cut_to, sum_shape}
use Rattle.model.specs.Announced.{announced, paired}
use Rattle.model.specs.Refusals.{zero_f}
use Rattle.model.specs.Poly.{Poly, Block, block, block_of, cut}
use Rattle.model.specs.Linear.{linear}
use Rattle.model.specs.General.{general}
use Rattle.model.specs.Product.{is_zero, constant_block, scaled, scaled_at, grown, raised, linear_product, product_of, multiplied, product_poly}
use Rattle.shape_words.specs.Rules.{Regular}
use Rattle.shape.specs.Announced.{announced-regular}
use Rattle.shape.specs.Keeps.{Keeps}
use Rattle.laws_keeps.specs.Sits.{Sits, sits-more, sum_at_lem}
use Rattle.laws_keeps.specs.Keeps.{sits-keeps, joined-under, left-sits, right-sits}
use Rattle.laws_keeps.specs.Ways.{Shortcuts, by_way, by-way_or-line, linear-is, line_two_lem}

-- ---- lengths

-- a constant sits under whatever another sits under
pub constant-sits : {r : List ℕ} {b : Block} (c : Float) → Sits r b → Sits r (constant_block c)
unfolding span
constant-sits {r} c s = record {
  ns = refl;
  lo = each (λ k. 1 ≤ at ones k) (lit< tt) (lit< tt) (lit< tt) (lit< tt);
  hi = each (λ k. at ones k ≤ at r k) (least s 0 (lit< tt)) (least s 1 (lit< tt)) (least s 2 (lit< tt)) (least s 3 (lit< tt));
  full = refl;
}
  where
    least : {r : List ℕ} {b : Block} → Sits r b → (k : ℕ) → k < 4 → 1 ≤ at r k
    least s k h = le_trans (s.lo k h) (s.hi k h)

pub scaled-sits : {r : List ℕ} {b : Block} (c : Float) → Sits r b → Sits r (scaled c b)
scaled-sits {b = b} c s = record { ns = s.ns; lo = s.lo; hi = s.hi; full = length-table (scaled_at c b.places) (count b.lengths) }

-- four numbers, one of them changed
pub set-four : (n : List ℕ) (v x : ℕ) → n ≡ four (at n) → set n v x ≡ four (at (set n v x))
set-four n v x e = ap (λ (m : List ℕ). set m v x) e ∙ by v ∙ ap (λ (m : List ℕ). four (at (set m v x))) (sym e)
  where
    by : (v : ℕ) → set (four (at n)) v x ≡ four (at (set (four (at n)) v x))
    by zero = refl
    by (suc zero) = refl
    by (suc (suc zero)) = refl
    by (suc (suc (suc zero))) = refl
    by (suc (suc (suc (suc v)))) = refl

module _ {l : List ℕ} {a b : Block} (s : Sits l a) (t : Sits l b) where
  abbrev shape : List ℕ
  shape = sum_shape l a.lengths b.lengths

  pub left-fits : Sits shape a
  left-fits = record { ns = s.ns; lo = s.lo; hi = λ k h. rw (sum_at_lem l a.lengths b.lengths k h) (omega (arith, s.hi k h, t.lo k h)); full = s.full }

  pub right-fits : Sits shape b
  right-fits = record { ns = t.ns; lo = t.lo; hi = λ k h. rw (sum_at_lem l a.lengths b.lengths k h) (omega (arith, t.hi k h, s.lo k h)); full = t.full }

  pub general-fits : Sits shape (block shape (general a.lengths b.lengths shape a.places b.places))
  unfolding sum_shape general
  general-fits = record {
    ns = refl;
    lo = λ k h. rw (sum_at_lem l a.lengths b.lengths k h) (omega (arith, s.lo k h, s.hi k h, t.lo k h));
    hi = λ k h. le_refl _;
    full = length-table _ (count shape);
  }

-- under the limits
pub shape-under : (l n m : List ℕ) (k : ℕ) → k < 4 → at (sum_shape l n m) k ≤ at l k
shape-under l n m k h = rw (sum_at_lem l n m k h) (omega arith)

-- beside a constant the other's lengths
one_more : {l : List ℕ} {x : Block} → Sits l x → (k : ℕ) → k < 4 → at (sum_shape l x.lengths ones) k ≤ at x.lengths k
one_more {l} {x} s k h = rw (sum_at_lem l x.lengths ones k h) (omega (arith, at-four (λ k. 1) k h))

-- one row more in v
pub raised-sits : {l r : List ℕ} {x : Block} (v : ℕ) (m : Float) → v < 4 → Sits l x → Sits r x
    → min (at l v) (at x.lengths v + 1) ≤ at r v → Sits r (raised l v m x)
unfolding raised grown
raised-sits {l} {r} {x} v m h s t e =
    let n = x.lengths in
    let w : ℕ = min (at l v) (at n v + 1) in
    let in_list : v < length n = long n v (s.lo v h) in
    record {
      ns = set-four n v w s.ns;
      lo = one-changed (λ k y. 1 ≤ y) n v w in_list (omega (arith, s.lo v h, s.hi v h)) (λ k g o. s.lo k g);
      hi = one-changed (λ k y. y ≤ at r k) n v w in_list e (λ k g o. t.hi k g);
      full = length-table _ (count (set n v w));
    }

-- ---- the ways

pub shortcut-fits : {l : List ℕ} {a b : Block} → Sits l a → Sits l b → Shortcuts a b (Sits (sum_shape l a.lengths b.lengths))
shortcut-fits s t = record {
  left_one = λ e. right-fits s t;
  right_one = λ e. left-fits s t;
  left_constant = λ e. scaled-sits _ (right-fits s t);
  right_constant = λ e. scaled-sits _ (left-fits s t);
}

-- a line in v times x, r the lengths that the result may have
pub linear-fits : (by_c : Block → Block) (l : List ℕ) (line : Linear) {r : List ℕ} {x : Block} → line.variable < 4 → Sits l x → Sits r x
    → min (at l line.variable) (at x.lengths line.variable + 1) ≤ at r line.variable
    → Sits (sum_shape l x.lengths ones) (by_c x) → Sits r (linear_product by_c l line x)
unfolding linear_product
linear-fits by_c l line {r} h s t e q =
    let up = raised-sits line.variable line.m h s t e in
    of-both (Sits r) (eq line.c zero_f) up (joined-under false up (sits-more (λ k g. le_trans (one_more s k g) (t.hi k g)) q))

-- ---- the whole product
