-- The ways of `subst_var` on blocks of whole numbers (document 01, port order 7), tested on the uncut b: zero leaves
-- the row 0; a line in v with c zero gives row k times m to the k; else Horner's rule. Each is the exact substitution
-- under the limits.
use Rattle.std.specs.Prelude.{◌≡◌, true, ◌&&◌, List, ℕ, suc, ◌-◌, ◌^◌, ◌≤◌, ◌<◌, length, ℤ, pos, nat_abs, ◌+ℤ◌, ◌*ℤ◌}
use Rattle.std.proofs.Common.{sym, ap, ◌∙◌, le_trans, le_of_eq, one-mul, mul-le-mul, mul-le-mul_right, arith, eqb-true}
use Rattle.std.proofs.Math.Nat.{pow-le-pow_right}
use Rattle.std.proofs.Math.Dec.{eqb}
use Rattle.std.proofs.Math.IntN.{+ℤ_idr, *ℤ-zero}
use Rattle.std.specs.Float.Ieee.{eq}
use Rattle.lists.specs.Test.{decide, and_left, and_right}
use Rattle.lists.specs.Four.{at}
use Rattle.model.specs.declared.Linear.{Linear}
use Rattle.model_textbook.specs.Box.{index_minus}
use Rattle.model.specs.Places.{inside}
use Rattle.model.specs.Refusals.{zero_f}
use Rattle.model.specs.Poly.{Block}
use Rattle.model.specs.Linear.{line_of, linear}
use Rattle.model.specs.Product.{is_zero}
use Rattle.model.specs.Substitute.{row_at, powered, substituted}
use Rattle.model_textbook.specs.Textbook.{Series, series_of, coefficient_of, substitute}
use Rattle.laws_whole.specs.Int.{abs-mul}
use Rattle.laws_whole.specs.Whole.{Whole}
use Rattle.laws_whole.specs.Compare.{eq-zero}
use Rattle.laws_whole.specs.IndexLaws.{minus-length, minus-within}
use Rattle.shape_words.specs.Lengths.{inside_is, inside-at}
use Rattle.laws_exact.specs.Windows.{times_none}
use Rattle.laws_exact.specs.Generals.{before}
use Rattle.laws_exact.specs.Factors.{unit, unit-length}
use Rattle.laws_exact.specs.Wholes.{Is, is_same_lem, wholes-is, wholes-at, past-at, size-at}
use Rattle.laws_exact.specs.Firsts.{outside, at-origin}
use Rattle.laws_keeps.specs.Ways.{Line, linear-is}
use Rattle.laws_exact.specs.Lines.{line-constant, line_factor, line-only}
use Rattle.laws_exact.specs.Multiplied.{zero-series}
use Rattle.laws_exact_substitution.specs.Rowed.{row_is}
use Rattle.laws_exact_substitution.specs.Hornered.{running, running-step, running-all}
use Rattle.laws_exact_substitution.specs.Powered.{pow_z, abs-pow, substitute-line, powered-is}
use Rattle.laws_exact_substitution.specs.Horners.{Puts, at_least_one, horner-all-is}

module _ {l : List ℕ} {v : ℕ} {a b : Block} {x y : ℕ → ℤ} (g : Puts l v a b x y) where
  abbrev A : Series
  A = series_of a.lengths x

  abbrev B : Series
  B = series_of b.lengths y

  abbrev p : ℕ
  p = at a.lengths v

  abbrev Exact : Block → Type 0
  Exact r = Is l r (substitute v p A B)

  -- ---- zero

  zero-way : is_zero b ≡ true → Exact (row_at l v a 0)
  zero-way e =
      let some : p ≡ suc (p - 1) = let o = g.left.lo v g.var in omega arith in
      is_same_lem (λ k f i. sym
      (sym (running-all v A B p k)
      ∙ ap (λ (n : ℕ). running v A B 0 n k) some
      ∙ running-step v A B 0 (p - 1) k
      ∙ ap (λ (z : ℤ). coefficient_of v 0 A k +ℤ z)
      (times_none (running v A B 1 (p - 1)) B k (λ j w.
      ap (λ (z : ℤ). running v A B 1 (p - 1) j *ℤ z)
      (zero-series g.pos_l g.right (wholes-is g.wholes_right l) e (index_minus k j) (minus-length k j ∙ f)
      (before (minus-within k j) i))
      ∙ *ℤ-zero (running v A B 1 (p - 1) j)))
      ∙ +ℤ_idr (coefficient_of v 0 A k)))
      (row_is l v g.var g.wholes_left 0 (g.left.lo v g.var))

  -- ---- a line in v

  module _ (line : Linear) (i : Line b line) (same : line.variable ≡ v) (none : eq line.c zero_f ≡ true) where
    factor : Whole line.m (B (unit v))
    unfolding line_of
    factor = rw (ap (λ (x : Linear). x.m) i.is, same) (line_factor g.right (wholes-is g.wholes_right b.lengths) v g.var (rw same at i.fits))

    line-zero : (j : List ℕ) → length j ≡ 4 → (j ≡ unit v → ⊥) → B j ≡ pos 0
    line-zero j f o =
        let w = wholes-is g.wholes_right b.lengths in
        decide (inside b.lengths j)
        (λ t. at-origin j f
        (λ e. ap B e ∙ (eq-zero (line-constant i g.right w)).0 none)
        (λ e. line-only g.right w v g.var (rw same at i.fits) j f (inside_is b.lengths j t) e o))
        (λ t. past-at b j (wholes-at g.wholes_right j) t)

    past : (k : List ℕ) → length k ≡ 4 → p ≤ at k v → A k ≡ pos 0
    past k f e = past-at a k (wholes-at g.wholes_left k) (outside a.lengths k (λ j. omega (arith, inside-at j v g.var)))

    power_small : (n : ℕ) → n < p → nat_abs (pow_z (B (unit v)) n) ≤ at_least_one b y ^ (p - 1)
    power_small n e =
        le_trans (abs-pow (B (unit v)) (at_least_one b y) (le_trans (size-at b.lengths y (ap length g.right.ns) (unit v) (unit-length v)) (omega arith)) n)
        (pow-le-pow_right (omega arith) (omega arith))

    line_way_lem : Exact (powered l v a line.m)
    line_way_lem =
        is_same_lem (λ k f i. sym (substitute-line v g.var A B line-zero p past k f))
        (powered-is l v g.var g.wholes_left factor
        (λ n e. le_trans (power_small n e) (le_trans (le_of_eq (sym (one-mul _)))
        (le_trans (mul-le-mul_right (at_least_one b y ^ (p - 1)) (omega arith)) g.bound)))
        (λ k f e. rw (abs-mul (A k) (pow_z (B (unit v)) (at k v)))
        (le_trans (mul-le-mul (le_trans (size-at a.lengths x (ap length g.left.ns) k f) (omega arith)) (power_small (at k v) e)) g.bound)))

  -- ---- the ways

  pub substituted-is : Exact (substituted l v a b)
  unfolding substituted
  substituted-is =
      decide (is_zero b)
      (λ t. rw t (zero-way t))
      (λ t. rw t (decide (((linear b).yes && eqb (linear b).variable v) && eq (linear b).c zero_f)
      (λ u.
      let w = and_left ((linear b).yes && eqb (linear b).variable v) (eq (linear b).c zero_f) u in
      rw u
      (line_way_lem (linear b) (linear-is b (and_left (linear b).yes (eqb (linear b).variable v) w))
      (eqb-true _ _ (and_right (linear b).yes (eqb (linear b).variable v) w))
      (and_right ((linear b).yes && eqb (linear b).variable v) (eq (linear b).c zero_f) u)))
      (λ u. rw u (horner-all-is g))))
