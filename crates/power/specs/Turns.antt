-- The turns of squaring, on blocks alone: what is left to do makes the whole power, in turns enough for the exponent's
-- bits, and no length passes the announced one.
use Rattle.std.specs.Prelude.{ℕ, zero, suc, ◌+◌, ◌-◌, ◌*◌, ◌/◌, ◌%◌, ◌^◌, ◌≤◌, ◌<◌, min, List, ◌≡◌, refl, eqb}
use Rattle.std.proofs.Common.{sym, ◌∙◌, arith, le_refl, le_trans, mul-le-mul_right, eqb-true}
use Rattle.std.proofs.lemmas.Bool.{lt-leb, eqb-false}
use Rattle.lists.specs.Test.{decide}
use Rattle.lists.specs.Four.{at, four, at-four}
use Rattle.model.specs.Header.{count, span}
use Rattle.model.specs.Limits.{sum_shape}
use Rattle.model.specs.Readings.{one_f}
use Rattle.model.specs.Poly.{Block}
use Rattle.model.specs.Product.{constant_block, multiplied}
use Rattle.model.specs.Power.{squared}
use Rattle.laws_keeps.specs.Sits.{Sits, sum_at_lem}
use Rattle.laws_keeps.specs.Running.{Most, constant-most}
use Rattle.laws_keeps.specs.PowerKeeps.{halves}
use Rattle.laws_keeps.proofs.PowerKeeps.{product-most, bit-most, squared-most}
use Rattle.product.specs.Room.{Under}
use Rattle.product.specs.Ways.{count_less, sits-under, shape-left, shape-right}
use Rattle.power.specs.Room.{power_block, power_shape, taken}

-- at most `turns` turns are left, and less one the lengths of the result are at most x, of the base y, of the whole m
pub record Running (l : List ℕ) (m : ℕ → ℕ) (whole : Block) (e : ℕ) (res base : Block) : Type 0 where
  pub x : ℕ → ℕ
  pub y : ℕ → ℕ
  pub turns : ℕ
  pub some : 1 ≤ e
  pub enough : e < 2 ^ turns
  pub result : Most l (λ k. 1 + x k) res
  pub squares : Most l (λ k. 1 + y k) base
  pub reach : (k : ℕ) → x k + e * y k ≤ m k
  pub value : squared turns l e res base ≡ whole

-- ---- the value

squared-next : (t e : ℕ) (l : List ℕ) (res base : Block) → 1 < e → e < 2 ^ t → (e / 2 < 2 ^ (t - 1))
    × (squared t l e res base ≡ squared (t - 1) l (e / 2) (taken l e res base) (multiplied l base base))
unfolding squared
squared-next zero e l res base h g = absurd (omega arith)
squared-next (suc t) e l res base h g = let q : suc t - 1 ≡ t = omega arith in rw q ((omega arith, rw (lt-leb e 1 h)))

squared-last : (t e : ℕ) (l : List ℕ) (res base : Block) → e ≡ 1 → e < 2 ^ t → squared t l e res base ≡ multiplied l res base
unfolding squared
squared-last zero e l res base h g = absurd (omega arith)
squared-last (suc t) e l res base h g = rw h

-- ---- the turns

least : {l : List ℕ} {b : Block} → Sits l b → (k : ℕ) → k < 4 → 1 ≤ at l k
least s k h = le_trans (s.lo k h) (s.hi k h)

pub running-first : {l : List ℕ} {e : ℕ} {base : Block} → 1 ≤ e → e < 2 ^ 32 → Sits l base
    → Running l (λ k. e * (at base.lengths k - 1)) (squared 32 l e (constant_block one_f) base) e (constant_block one_f) base
running-first {l} {e} {base} p q s = record {
  x = λ k. 0;
  y = λ k. at base.lengths k - 1;
  turns = 32;
  some = p;
  enough = q;
  result = constant-most one_f s (λ k h. le_refl 1);
  squares = record { sits = s; most = λ k h. omega arith };
  reach = λ k. omega arith;
  value = refl;
}

module _ {l : List ℕ} {m : ℕ → ℕ} {whole : Block} {e : ℕ} {res base : Block} (r : Running l m whole e res base) where
  pub running-next : 1 < e → Running l m whole (e / 2) (taken l e res base) (multiplied l base base)
  running-next h =
      let p = least r.squares.sits in
      let n = squared-next r.turns e l res base h r.enough in
      record {
        x = λ k. r.x k + (e % 2) * r.y k;
        y = λ k. r.y k + r.y k;
        turns = r.turns - 1;
        some = omega arith;
        enough = n.0;
        result = bit-most p e r.x r.y r.result r.squares;
        squares = product-most p r.y r.y (λ k. r.y k + r.y k) r.squares r.squares (λ k g. le_refl _);
        reach = λ k. omega (arith, r.reach k, halves e (r.y k));
        value = sym n.1 ∙ r.value;
      }

  pub running-last : e ≤ 1 → multiplied l res base ≡ whole
  running-last h = sym (squared-last r.turns e l res base (omega (arith, r.some)) r.enough) ∙ r.value

  -- ---- the room

  abbrev shape : List ℕ
  shape = four (λ k. min (at l k) (m k + 1))

  -- lengths that keep within
  within : (n : List ℕ) → ((k : ℕ) → k < 4 → at n k ≤ min (at l k) (m k + 1)) → count n ≤ count shape
  within n h = count_less shape n (λ k g. rw (at-four (λ k. min (at l k) (m k + 1)) k g) (h k g))

  -- the result times the base
  pub running_bit : count (sum_shape l res.lengths base.lengths) ≤ count shape
  running_bit =
      within (sum_shape l res.lengths base.lengths)
      (λ k h. let g : 1 * r.y k ≤ e * r.y k = mul-le-mul_right (r.y k) r.some in
      rw (sum_at_lem l res.lengths base.lengths k h) (omega (arith, r.result.most k h, r.squares.most k h, r.reach k)))

  -- the base times itself
  pub running-square : 1 < e → count (sum_shape l base.lengths base.lengths) ≤ count shape
  running-square i =
      within (sum_shape l base.lengths base.lengths)
      (λ k h. let g : 2 * r.y k ≤ e * r.y k = mul-le-mul_right (r.y k) i in
      rw (sum_at_lem l base.lengths base.lengths k h) (omega (arith, r.squares.most k h, r.reach k)))

  -- each by itself
  pub running-under : Under l res.lengths × Under l base.lengths
  running-under = (sits-under r.result.sits, sits-under r.squares.sits)

  pub running-small : (count res.lengths ≤ count shape) × (count base.lengths ≤ count shape)
  running-small =
      let u = running-under in
      let s : List ℕ = sum_shape l res.lengths base.lengths in (
        le_trans (count_less s res.lengths (shape-left u.0 u.1)) running_bit,
        le_trans (count_less s base.lengths (shape-right u.0 u.1)) running_bit,
      )

-- ---- the whole

most-sits : (e : ℕ) {l : List ℕ} (n : List ℕ) {b : Block} → Most l (λ k. 1 + (0 + e * (at n k - 1))) b → Sits (power_shape e l n) b
unfolding power_shape
most-sits e {l} n m = record {
  ns = m.sits.ns;
  lo = m.sits.lo;
  hi = λ k h. rw (at-four (λ k. min (at l k) (e * (at n k - 1) + 1)) k h) (omega (arith, m.sits.hi k h, m.most k h));
  full = m.sits.full;
}

-- the power lies under the announced lengths; the power 0 asks nothing of the base
pub power-sits : (e : ℕ) {l : List ℕ} {b : Block} → ((k : ℕ) → k < 4 → 1 ≤ at l k) → (0 < e → Sits l b) → Sits (power_shape e l b.lengths) (power_block e l b)
unfolding power_block span
power-sits e {l} {b} p s =
    let one : Sits l (constant_block one_f) = record {
      ns = refl;
      lo = λ k h. omega (arith, at-four (λ k. 1) k h);
      hi = λ k h. le_trans (omega (arith, at-four (λ k. 1) k h)) (p k h);
      full = refl;
    } in
    decide (eqb e 0)
    (λ t. rw t (most-sits e b.lengths (record { sits = one; most = λ k h. omega (arith, at-four (λ k. 1) k h) })))
    (λ t.
    let base = s (omega (arith, eqb-false e 0 t)) in
    rw t (decide (eqb e 1)
    (λ u. rw u (most-sits e b.lengths (record { sits = base; most = λ k h. rw (eqb-true e 1 u) (omega arith) })))
    (λ u. rw u (most-sits e b.lengths (squared-most p 32 e (λ k. 0) (λ k. at b.lengths k - 1)
    (constant-most one_f base (λ k h. le_refl 1)) (record { sits = base; most = λ k h. omega arith }))))))
