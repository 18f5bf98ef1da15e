-- What rests on laws of specs/ (PowerKeeps).
use Rattle.std.specs.Prelude.{◌≡◌, cond, List, leb, eqb, length}
use Rattle.std.proofs.Common.{eqb-true}
use Prim.Native.Nat.{ℕ, zero, suc, ◌+◌, ◌-◌, ◌*◌, ◌/◌, ◌%◌, ◌≤◌, ◌<◌, min}
use Rattle.std.proofs.Math.Nat.{le_refl, le_trans}
use native.Mathlib.Omega.{arith}
use Rattle.lists.specs.Test.{decide, of-both}
use Rattle.lists.specs.Four.{at, at-four}
use Rattle.model.specs.declared.Family.TheVariants.{Power}
use Rattle.model.specs.Header.{limit, len, stored, no_header}
use Rattle.model.specs.Announced.{announced, single}
use Rattle.model.specs.Poly.{Poly, Block, block_of, poly_of, cut}
use Rattle.model.specs.Readings.{one_f}
use Rattle.model.specs.Product.{constant_block, multiplied}
use Rattle.model.specs.Power.{squared, power_poly}
use Rattle.shape_words.specs.Rules.{Regular}
use Rattle.shape.specs.Announced.{single-regular}
use Rattle.shape.specs.Keeps.{Keeps, none-keeps}
use Rattle.shape.specs.Cut.{cut_at}
use Rattle.laws_keeps.specs.Running.{Most, most-more, constant-most, most-keeps}
use Rattle.laws_keeps.proofs.Running.{multiplied-most}
use Rattle.laws_keeps.specs.PowerKeeps.{halves, limits-same, once, own}

module _ {l : List ℕ} (pos_l : (k : ℕ) → k < 4 → 1 ≤ at l k) where
  pub product-most : (x y z : ℕ → ℕ) {a b : Block} → Most l (λ k. 1 + x k) a → Most l (λ k. 1 + y k) b
      → ((k : ℕ) → k < 4 → x k + y k ≤ z k) → Most l (λ k. 1 + z k) (multiplied l a b)
  unfolding cut
  product-most x y z {a} {b} m n h =
      multiplied-most l a b pos_l m.sits.lo n.sits.lo m.most
      (λ k g. le_trans (rw (cut_at l b.lengths k g) (omega arith)) (n.most k g)) (λ k g. omega (arith, h k g))

  -- one bit of the exponent taken into the result
  pub bit-most : (e : ℕ) (x y : ℕ → ℕ) {res base : Block} → Most l (λ k. 1 + x k) res → Most l (λ k. 1 + y k) base
      → Most l (λ k. 1 + (x k + (e % 2) * y k)) (cond (eqb (e % 2) 1) (multiplied l res base) res)
  bit-most e x y m b =
      decide (eqb (e % 2) 1)
      (λ t. let o : e % 2 ≡ 1 = eqb-true _ _ t in rw t (product-most x y _ m b (λ k g. rw o (omega arith))))
      (λ t. rw t (most-more (λ k g. omega arith) m))

  pub squared-most : (n e : ℕ) (x y : ℕ → ℕ) {res base : Block} → Most l (λ k. 1 + x k) res → Most l (λ k. 1 + y k) base
      → Most l (λ k. 1 + (x k + e * y k)) (squared n l e res base)
  unfolding squared
  squared-most zero e x y m b = most-more (λ k g. omega arith) m
  squared-most (suc n) e x y {res} {base} m b =
      let next = bit-most e x y m b in
      of-both (Most l (λ k. 1 + (x k + e * y k))) (leb e 1)
      (most-more (λ k g. omega (arith, halves e (y k))) next)
      (most-more (λ k g. omega (arith, halves e (y k)))
      (squared-most n (e / 2) (λ k. x k + (e % 2) * y k) (λ k. y k + y k) next
      (product-most y y (λ k. y k + y k) b b (λ k g. le_refl _))))

module _ (e : ℕ) (p : Poly) (g : Regular p.head) (full : length p.coeffs ≡ stored p.head) where
  pub squarings_lem : Keeps (single (Power e) p.head)
      (poly_of (single (Power e) p.head) (squared 32 (single (Power e) p.head).limits e
      (constant_block one_f) (block_of p)))
  unfolding single
  squarings_lem =
      most-keeps {x = λ k. 1 + (0 + e * (len p.head k - 1))} (single-regular (Power e) g.rules)
      (rw (limits-same e p g full)
      (squared-most (λ k h. le_trans ((own e p g full).lo k h) ((own e p g full).hi k h)) 32 e (λ k. 0) (λ k. len p.head k - 1)
      (constant-most one_f (own e p g full) (λ k h. le_refl 1)) (record { sits = (own e p g full); most = λ k h. omega arith })))
      (λ k h. rw (at-four (limit p.head) k h, at-four (λ k. min (limit p.head k) (e * (len p.head k - 1) + 1)) k h) (omega arith))

  pub power-keeps : Keeps (announced (Power e) p.head no_header) (power_poly e p)
  unfolding power_poly announced
  power-keeps =
      decide (eqb e 0)
      (λ t. rw t (none-keeps one_f))
      (λ t. rw t (decide (eqb e 1)
      (λ u. rw u ((once e p g full) (eqb-true e 1 u)))
      (λ u. rw u squarings_lem)))
