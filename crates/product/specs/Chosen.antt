-- Which way the code takes: 0 left one, 1 right one, 2 left constant, 3 right constant, 4 left linear, 5 right linear,
-- 6 general, with the constant or the line; and that the product goes that way.
-- A line is looked for above stage 0 only: the product by a constant that a line asks for is one of stage 0.
use Rattle.std.specs.Prelude.{ℕ, zero, suc, List, Bool, true, cond, ◌≡◌, refl, Float}
use Rattle.std.proofs.Math.Bool.{false}
use Rattle.std.proofs.Common.{sym, ap, ◌∙◌, arith}
use Rattle.std.proofs.Math.Dec.{eqb}
use borrow.Author.Tests.{ne_eqb}
use Rattle.lists.specs.Test.{decide}
use Rattle.model.specs.declared.Linear.{Linear}
use Rattle.product.specs.declared.kernel.Way.{Way}
use Rattle.product.specs.declared.kernel.Way.TheVariants.{Right, Left, ScaledRight, ScaledLeft, LineRight, LineLeft, General}
use Rattle.model.specs.Poly.{Block}
use Rattle.model.specs.Refusals.{zero_f}
use Rattle.model.specs.Readings.{first}
use Rattle.model.specs.Linear.{no_linear, linear}
use Rattle.model.specs.Product.{is_constant, is_one, constant_block, scaled, linear_product, general_block, shortcut, product_of}

-- the number of a way
abbrev pub kind_of : Way → ℕ
kind_of Right = 0
kind_of Left = 1
kind_of (ScaledRight c) = 2
kind_of (ScaledLeft c) = 3
kind_of (LineRight l) = 4
kind_of (LineLeft l) = 5
kind_of General = 6

-- a constant, in the place of a line's
abbrev pub just_c : Float → Linear
just_c c = record { yes = false; c = c; m = zero_f; variable = 0 }

-- the line of a way, or its constant in the place of one
abbrev pub line_of : Way → Linear
line_of Right = no_linear
line_of Left = no_linear
line_of (ScaledRight c) = just_c c
line_of (ScaledLeft c) = just_c c
line_of (LineRight l) = l
line_of (LineLeft l) = l
line_of General = no_linear

-- the way with a number, and a line or a constant
abbrev pub way : ℕ → Linear → Way
way k l =
    cond (eqb k 0) Right
    (cond (eqb k 1) Left
    (cond (eqb k 2) (ScaledRight l.c)
    (cond (eqb k 3) (ScaledLeft l.c)
    (cond (eqb k 4) (LineRight l)
    (cond (eqb k 5) (LineLeft l)
    General)))))

way-is : (w : Way) → way (kind_of w) (line_of w) ≡ w
way-is Right = refl
way-is Left = refl
way-is (ScaledRight c) = refl
way-is (ScaledLeft c) = refl
way-is (LineRight l) = refl
way-is (LineLeft l) = refl
way-is General = refl

pub by_number : (w : Way) {k : ℕ} → kind_of w ≡ k → w ≡ way k (line_of w)
by_number w h = sym (way-is w) ∙ ap (λ (k : ℕ). way k (line_of w)) h

unfoldable pub chosen : ℕ → Block → Block → Way
chosen stage a b =
    cond (is_one a) Right
    (cond (is_one b) Left
    (cond (is_constant a) (ScaledRight (first a.places))
    (cond (is_constant b) (ScaledLeft (first b.places))
    (cond (eqb stage 0) General
    (cond (linear a).yes (LineRight (linear a))
    (cond (linear b).yes (LineLeft (linear b))
    General))))))

-- the ways that ask for no other product; l the limits
unfoldable pub plain_product : List ℕ → ℕ → Float → Block → Block → Block
plain_product l k c a b =
    cond (eqb k 0) b
    (cond (eqb k 1) a
    (cond (eqb k 2) (scaled c b)
    (cond (eqb k 3) (scaled c a)
    (general_block l a b))))

-- what the way w gives; by_c the product by its constant
abbrev pub way_product : (Float → Block → Block) → List ℕ → Way → Block → Block → Block
way_product by_c l w a b =
    cond (eqb (kind_of w) 4) (linear_product (by_c (line_of w).c) l (line_of w) b)
    (cond (eqb (kind_of w) 5) (linear_product (by_c (line_of w).c) l (line_of w) a)
    (plain_product l (kind_of w) (line_of w).c a b))

-- t to z are the tests in their order, ca and cb the constants, la and lb the lines
along : (by_c : Float → Block → Block) (l : List ℕ) (a b : Block) (t u v x y z : Bool) (ca cb : Float) (la lb : Linear)
    → cond t b (cond u a
    (cond v (scaled ca b) (cond x (scaled cb a)
    (cond y (linear_product (by_c la.c) l la b) (cond z (linear_product (by_c lb.c) l lb a) (general_block l a b))))))
    ≡ way_product by_c l (cond t Right
    (cond u Left
    (cond v (ScaledRight ca) (cond x (ScaledLeft cb) (cond y (LineRight la) (cond z (LineLeft lb) General)))))) a b
unfolding plain_product
along by_c l a b true u v x y z ca cb la lb = refl
along by_c l a b false true v x y z ca cb la lb = refl
along by_c l a b false false true x y z ca cb la lb = refl
along by_c l a b false false false true y z ca cb la lb = refl
along by_c l a b false false false false true z ca cb la lb = refl
along by_c l a b false false false false false true ca cb la lb = refl
along by_c l a b false false false false false false ca cb la lb = refl

module _ (l : List ℕ) (a b : Block) where
  pub product-plainly : product_of 0 l a b ≡ plain_product l (kind_of (chosen 0 a b)) (line_of (chosen 0 a b)).c a b
  unfolding product_of shortcut chosen plain_product
  product-plainly =
      decide (is_one a) (λ t. rw t) (λ t.
      decide (is_one b) (λ u. rw (t, u)) (λ u.
      decide (is_constant a) (λ v. rw (t, u, v)) (λ v.
      decide (is_constant b) (λ x. rw (t, u, v, x)) (λ x. rw (t, u, v, x)))))

  pub product-chosen : (s : ℕ)
      → product_of (suc s) l a b ≡ way_product (λ c x. product_of s l x (constant_block c)) l (chosen (suc s) a b) a b
  unfolding product_of shortcut chosen
  product-chosen s =
      let some : eqb (suc s) 0 ≡ false = ne_eqb (suc s) 0 (λ e. omega (arith, e)) in
      rw some (along (λ c x. product_of s l x (constant_block c)) l a b (is_one a) (is_one b) (is_constant a) (is_constant b) (linear a).yes
      (linear b).yes (first a.places) (first b.places) (linear a) (linear b))
