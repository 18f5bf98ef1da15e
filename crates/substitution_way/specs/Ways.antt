-- Which way a substitution goes, and what that way makes.
use Rattle.std.specs.Prelude.{ℕ, ◌≤◌, ◌<◌, List, Bool, ◌&&◌, cond, ◌≡◌, refl, ltb, eqb}
use Rattle.std.proofs.Math.Bool.{true, false}
use Rattle.std.proofs.Common.{sym, ◌∙◌, arith, le-ltb, lt-ltb, ltb-true, ltb-false}
use Rattle.std.proofs.Math.Path.{ap}
use Rattle.std.specs.Float.Ieee.{eq}
use Rattle.lists.specs.Four.{at}
use Rattle.model.specs.declared.Linear.{Linear}
use Rattle.substitution_way.specs.declared.Way.{Way}
use Rattle.substitution_way.specs.declared.Way.TheVariants.{Same, Zero, Powers, Horner}
use Rattle.model.specs.Refusals.{zero_f}
use Rattle.model.specs.Poly.{Block}
use Rattle.model.specs.Linear.{linear}
use Rattle.model.specs.Product.{is_zero, constant_block}
use Rattle.model.specs.Substitute.{row_at, powered, horner, substituted}
use Rattle.substitution_way.specs.Way.{kind_of, line_of, way_of, put_for}

-- b is linear in v with c zero
abbrev line_in : ℕ → Linear → Bool
line_in v l = (l.yes && eqb l.variable v) && eq l.c zero_f

module _ (vars v : ℕ) (b : Block) where
  pub way-none : vars ≤ v → Same ≡ way_of vars v b
  unfolding way_of
  way-none h = rw (le-ltb v vars h)

  module _ (h : v < vars) where
    pub way-zero : is_zero b ≡ true → Zero ≡ way_of vars v b
    unfolding way_of
    way-zero z = rw (lt-ltb v vars h, z)

    module _ (z : is_zero b ≡ false) {l : Linear} (e : l ≡ linear b) where
      pub way-line : line_in v l ≡ true → Powers l ≡ way_of vars v b
      unfolding way_of
      way-line t = let u : line_in v (linear b) ≡ true = rw e at t in rw (lt-ltb v vars h, z, u, e)

      pub way-horner : line_in v l ≡ false → Horner ≡ way_of vars v b
      unfolding way_of
      way-horner t = let u : line_in v (linear b) ≡ false = rw e at t in rw (lt-ltb v vars h, z, u)

-- the tests that led to a way
abbrev ways : Bool → Bool → Bool → Linear → Way
ways has none line l = cond has (cond none Zero (cond line (Powers l) Horner)) Same

was_0 : (x y z : Bool) (l : Linear) → kind_of (ways x y z l) ≡ 0 → x ≡ false
was_0 false y z l h = refl
was_0 true true z l h = absurd (omega (arith, h))
was_0 true false true l h = absurd (omega (arith, h))
was_0 true false false l h = absurd (omega (arith, h))

was_1 : (x y z : Bool) (l : Linear) → kind_of (ways x y z l) ≡ 1 → (x ≡ true) × (y ≡ true)
was_1 false y z l h = absurd (omega (arith, h))
was_1 true true z l h = (refl, refl)
was_1 true false true l h = absurd (omega (arith, h))
was_1 true false false l h = absurd (omega (arith, h))

was_2 : (x y z : Bool) (l : Linear) → kind_of (ways x y z l) ≡ 2 → (x ≡ true) × (y ≡ false) × (z ≡ true)
was_2 false y z l h = absurd (omega (arith, h))
was_2 true true z l h = absurd (omega (arith, h))
was_2 true false true l h = (refl, refl, refl)
was_2 true false false l h = absurd (omega (arith, h))

was_3 : (x y z : Bool) (l : Linear) → (kind_of (ways x y z l) ≡ 0 → ⊥) → (kind_of (ways x y z l) ≡ 1 → ⊥)
    → (kind_of (ways x y z l) ≡ 2 → ⊥) → (x ≡ true) × (y ≡ false) × (z ≡ false)
was_3 false y z l h i j = absurd (h refl)
was_3 true true z l h i j = absurd (i refl)
was_3 true false true l h i j = absurd (j refl)
was_3 true false false l h i j = (refl, refl, refl)

-- w is what `choose` answered
module _ (vars v : ℕ) (l : List ℕ) (a b : Block) {w : Way} (e : w ≡ way_of vars v b) where
  kind-is : (k : ℕ) → kind_of w ≡ k → kind_of (way_of vars v b) ≡ k
  kind-is k h = ap kind_of (sym e) ∙ h

  module _ (h : kind_of w ≡ 0) where
    test_0 : ltb v vars ≡ false
    unfolding way_of
    test_0 = was_0 (ltb v vars) (is_zero b) (line_in v (linear b)) (linear b) (kind-is 0 h)

    pub lacks : vars ≤ v
    lacks = ltb-false v vars test_0

    pub value_0 : put_for vars l v a b ≡ a
    unfolding put_for
    value_0 = rw test_0

  module _ (h : kind_of w ≡ 1) where
    test_1 : (ltb v vars ≡ true) × (is_zero b ≡ true)
    unfolding way_of
    test_1 = was_1 (ltb v vars) (is_zero b) (line_in v (linear b)) (linear b) (kind-is 1 h)

    pub has_1 : v < vars
    has_1 = ltb-true v vars test_1.0

    pub value_1 : put_for vars l v a b ≡ row_at l v a 0
    unfolding put_for substituted
    value_1 = rw (test_1.0, test_1.1)

  module _ (h : kind_of w ≡ 2) where
    test_2 : (ltb v vars ≡ true) × (is_zero b ≡ false) × (line_in v (linear b) ≡ true)
    unfolding way_of
    test_2 = was_2 (ltb v vars) (is_zero b) (line_in v (linear b)) (linear b) (kind-is 2 h)

    pub has_2 : v < vars
    has_2 = ltb-true v vars test_2.0

    line-is : line_of w ≡ linear b
    unfolding way_of
    line-is = ap line_of e ∙ (rw (test_2.0, test_2.1, test_2.2))

    pub line_2 : substituted l v a b ≡ powered l v a (line_of w).m
    unfolding substituted
    line_2 = rw (test_2.1, test_2.2, line-is)

    pub value_2 : put_for vars l v a b ≡ powered l v a (line_of w).m
    unfolding put_for
    value_2 = rw test_2.0 line_2

  module _ (h : kind_of w ≡ 0 → ⊥) (i : kind_of w ≡ 1 → ⊥) (j : kind_of w ≡ 2 → ⊥) where
    test_3 : (ltb v vars ≡ true) × (is_zero b ≡ false) × (line_in v (linear b) ≡ false)
    unfolding way_of
    test_3 =
        was_3 (ltb v vars) (is_zero b) (line_in v (linear b)) (linear b)
        (λ k. h (ap kind_of e ∙ k)) (λ k. i (ap kind_of e ∙ k)) (λ k. j (ap kind_of e ∙ k))

    pub has_3 : v < vars
    has_3 = ltb-true v vars test_3.0

    pub some_3 : is_zero b ≡ false
    some_3 = test_3.1

    pub value_3 : put_for vars l v a b ≡ horner l v a (at a.lengths v) b (constant_block zero_f)
    unfolding put_for substituted
    value_3 = rw (test_3.0, test_3.1, test_3.2)

-- every way but Horner's rule
pub below_horner : (w : Way) → (w ≡ Horner → ⊥) → kind_of w ≤ 2
below_horner Same n = omega arith
below_horner Zero n = omega arith
below_horner (Powers l) n = omega arith
below_horner Horner n = absurd (n refl)
