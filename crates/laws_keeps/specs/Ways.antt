-- The ways of a product (document 01, port order 4), one after the other: what holds on each way holds of the product.
-- And what a linear factor is.
use Rattle.std.specs.Prelude.{◌≡◌, Bool, true, false, cond, List, eqb, leb, ltb}
use Rattle.std.proofs.Math.Path.{refl}
use Rattle.std.proofs.Common.{sym, true≢false, arith}
use Prim.Native.Nat.{ℕ, zero, suc, ◌+◌, ◌≤◌, ◌<◌}
use borrow.Author.Tests.{leb-true, ltb-true, ltb-false}
use Rattle.lists.specs.Test.{decide, and_left, and_right}
use Rattle.lists.specs.Four.{at}
use Rattle.model.specs.declared.Linear.{Linear}
use Rattle.model.specs.Header.{count}
use Rattle.model.specs.Poly.{Block}
use Rattle.model.specs.Readings.{first}
use Rattle.model.specs.Linear.{linear_place, zeros_but, row_one, linear_in, line_of, linear_from, linear}
use Rattle.model.specs.Product.{is_constant, is_one, constant_block, scaled, linear_product, general_block, shortcut, product_of}

-- ---- the way taken

-- by the two cases of a test
choice : {A : Type 0} (P : A → Type 0) (t : Bool) {x y : A} → (t ≡ true → P x) → (t ≡ false → P y) → P (cond t x y)
choice P true f g = f refl
choice P false f g = g refl

-- P of what each shortcut gives, with what its test says
pub record Shortcuts (a b : Block) (P : Block → Type 0) : Type 0 where
  pub left_one : is_one a ≡ true → P b
  pub right_one : is_one b ≡ true → P a
  pub left_constant : is_constant a ≡ true → P (scaled (first a.places) b)
  pub right_constant : is_constant b ≡ true → P (scaled (first b.places) a)

by-shortcut : {a b rest : Block} {P : Block → Type 0} → Shortcuts a b P → P rest → P (shortcut a b rest)
unfolding shortcut
by-shortcut {a} {b} {rest} {P} w r =
    choice P (is_one a) w.left_one (λ _.
    choice P (is_one b) w.right_one (λ _.
    choice P (is_constant a) w.left_constant (λ _.
    choice P (is_constant b) w.right_constant (λ _. r))))

-- x times the constant of a line, one stage lower
abbrev pub by_constant : ℕ → List ℕ → Linear → Block → Block
by_constant stage l line x = product_of stage l x (constant_block line.c)

-- P of what a linear factor gives
pub record LineWays (stage : ℕ) (l : List ℕ) (a b : Block) (P : Block → Type 0) : Type 0 where
  pub left_linear : (linear a).yes ≡ true → P (linear_product (by_constant stage l (linear a)) l (linear a) b)
  pub right_linear : (linear b).yes ≡ true → P (linear_product (by_constant stage l (linear b)) l (linear b) a)

module _ (l : List ℕ) {a b : Block} {P : Block → Type 0} (w : Shortcuts a b P) (g : P (general_block l a b)) where
  pub by_way : P (product_of 0 l a b)
  unfolding product_of
  by_way = by-shortcut {P = P} w g

  pub by-way_or-line : {stage : ℕ} → LineWays stage l a b P → P (product_of (suc stage) l a b)
  unfolding product_of
  by-way_or-line f =
      by-shortcut {P = P} w
      (choice P (linear a).yes f.left_linear (λ _.
      choice P (linear b).yes f.right_linear (λ _. g)))

-- ---- a linear factor

pub record Line (b : Block) (x : Linear) : Type 0 where
  pub var : x.variable < 4
  pub fits : linear_in b x.variable ≡ true
  pub is : x ≡ line_of b x.variable

module _ (b : Block) where
  from_is : (n v : ℕ) → n + v ≡ 4 → (linear_from b n v).yes ≡ true → Line b (linear_from b n v)
  unfolding linear_from line_of
  from_is zero v e h = absurd (true≢false (sym h))
  from_is (suc n) v e h =
      decide (linear_in b v)
      (λ t. rw t (record { var = omega arith; fits = t; is = refl }))
      (λ t. rw t (from_is n (suc v) (omega arith) (rw t at h)))

  pub linear-is : (linear b).yes ≡ true → Line b (linear b)
  linear-is = from_is 4 0 refl

  -- two rows at least
  pub line_two_lem : (v : ℕ) → linear_in b v ≡ true → 2 ≤ at b.lengths v
  unfolding linear_in
  line_two_lem v h = leb-true _ _ (and_left (leb 2 (at b.lengths v)) (zeros_but b.places (row_one b v) (count b.lengths)) h)

  zeros-at : (s n p : ℕ) → zeros_but b.places s n ≡ true → p < n → linear_place b.places s p ≡ true
  unfolding zeros_but
  zeros-at s zero p h l = absurd (omega arith)
  zeros-at s (suc n) p h l =
      decide (ltb p n)
      (λ t. zeros-at s n p (and_left (zeros_but b.places s n) (linear_place b.places s n) h) (ltb-true p n t))
      (λ t. let e : p ≡ n = omega (arith, ltb-false p n t) in rw e (and_right (zeros_but b.places s n) (linear_place b.places s n) h))

  -- and at every place but the first two rows' first a zero
  pub line_place_lem : (v : ℕ) → linear_in b v ≡ true → (p : ℕ) → p < count b.lengths → linear_place b.places (row_one b v) p ≡ true
  unfolding linear_in
  line_place_lem v h p l =
      zeros-at (row_one b v) (count b.lengths) p
      (and_right (leb 2 (at b.lengths v)) (zeros_but b.places (row_one b v) (count b.lengths)) h) l
