-- A short way makes the product: by a constant, or by a linear factor that adds no row, in one pass.
use Prim.Native.Nat.{ℕ, ◌+◌, ◌≤◌, ◌<◌, min}
use Rattle.std.specs.Prelude.{List, true, false, not, ◌&&◌, ◌||◌, ◌≡◌, eqb, set, Float}
use Rattle.std.proofs.Math.Path.{refl, ap}
use Rattle.std.proofs.Common.{sym, ◌∙◌, eqb-true, eq-eqb, ne_eqb}
use native.Mathlib.Omega.{arith}
use Rattle.std.proofs.Math.Seq.{set-get_or}
use Rattle.std.specs.Float.Ieee.{eq}
use Rattle.std.proofs.lemmas.Bool.{eqb-false, not-true}
use Rattle.lists.specs.Test.{and_left, and_right, or_right, decide}
use Rattle.lists.specs.Four.{at}
use Rattle.lists.specs.Table.{table}
use Rattle.product.specs.declared.kernel.Way.{Way}
use Rattle.model.specs.Header.{count}
use Rattle.model.specs.Places.{index}
use Rattle.model.specs.Refusals.{zero_f}
use Rattle.model.specs.Readings.{one_f, first}
use Rattle.model.specs.Gates.{full}
use Rattle.model.specs.Poly.{Block, block}
use Rattle.model.specs.Add.{joined_block}
use Rattle.model.specs.Linear.{linear}
use Rattle.model.specs.Product.{is_constant, is_zero, constant_block, scaled, scaled_at, grown, raised, linear_product, product_of, multiplied}
use Rattle.product.specs.Chosen.{chosen, kind_of, line_of}
use Rattle.product_kept.specs.Kept.{KeepsLength}
use Rattle.laws_keeps.specs.Sits.{Sits}
use Rattle.laws_keeps.specs.Ways.{linear-is, line_two_lem}
use Rattle.product.specs.Room.{Caps, RaisesTo}
use Rattle.product.specs.Ways.{sits-under, chosen_five, product_five, product-plain, plain_3}
use Rattle.product.specs.Lined.{neither, by-scale, lined-block}
use Rattle.product.specs.Times.{cut-none}
use Rattle.product.specs.Own.{long_way, is_light, light_way, Light, ShortBlock, short_places}
use Rattle.product_linear.specs.Raise.{lined_at, Raising}

-- a light factor is no zero
not-zero : (a b : Block) (w : Way) → Light a b w → is_constant a ≡ false → is_zero b ≡ false
unfolding chosen
not-zero a b w l na =
    decide (is_constant b)
    (λ cb. decide (eq (first b.places) one_f)
    (λ o.
    let k : kind_of w ≡ 1 = ap kind_of l.is ∙ simp (na, cb, o) in
    absurd (let f = l.kind (λ q. let z : 3 ≡ 1 = sym q ∙ k in absurd (omega arith)) in let z : 5 ≡ 1 = sym f ∙ k in omega arith))
    (λ o.
    let c : (line_of w).c ≡ first b.places = ap (λ (x : Way). (line_of x).c) l.is ∙ simp (na, cb, o) in
    let z : eq (first b.places) zero_f ≡ false = rw (← c) l.zero in
    simp (cb, z)))
    (λ cb. simp (cb))

-- what is made is the product
module _ {limits la lb : List ℕ} {xs ys : List Float} {w : Way} (sa : Sits limits (block la xs))
    (sb : Sits limits (block lb ys)) (caps : Caps limits) (big : 1 < count la)
    (own : (k : ℕ) → k < 4 → KeepsLength (at limits k) (at la k) (at limits k) (at lb k)) (l : Light (block la xs) (block lb ys) w) where
  abbrev a : Block
  a = block la xs

  abbrev b : Block
  b = block lb ys

  no-constant : is_constant a ≡ false
  no-constant = ne_eqb (count la) 1 (λ z. omega (arith, z))

  whole : multiplied limits a b ≡ product_of 1 limits a b
  unfolding multiplied
  whole = rw (not-zero a b w l no-constant, no-constant, cut-none sa, cut-none sb)

  by_constant_lem : kind_of w ≡ 3 → product_of 1 limits a b ≡ scaled (line_of w).c a
  by_constant_lem k =
      let e : (kind_of (chosen 1 a b)) ≡ 3 = ap kind_of (sym l.is) ∙ k in
      product-plain limits a b 1 (λ z. let q : 3 ≡ 4 = sym e ∙ z in omega arith) (λ z. let q : 3 ≡ 5 = sym e ∙ z in omega arith)
      ∙ (plain_3 limits (line_of (chosen 1 a b)).c a b (kind_of (chosen 1 a b)) e ∙ ap (λ (x : Way). scaled (line_of x).c a) (sym l.is))

  module _ (n : kind_of w ≡ 3 → ⊥) where
    five : (kind_of (chosen 1 a b)) ≡ 5
    five = ap kind_of (sym l.is) ∙ l.kind n

    line-is : (line_of w) ≡ linear b
    line-is = ap line_of (l.is ∙ (chosen_five 1 a b five).is)

    pub short-var : (line_of w).variable < 4
    short-var = rw line-is (linear-is b (chosen_five 1 a b five).yes).var

    two-rows : 2 ≤ at lb (line_of w).variable
    two-rows = rw line-is (line_two_lem b (linear b).variable (linear-is b (chosen_five 1 a b five).yes).fits)

    same-grown : grown limits (line_of w).variable la ≡ la
    unfolding grown
    same-grown =
        let v : ℕ = (line_of w).variable in
        let q = (own v short-var).own (sa.lo v short-var) (sa.hi v short-var) in
        let e : min (at limits v) (at la v + 1) ≡ at la v =
        omega (
          arith,
          q,
          two-rows,
          sa.lo v short-var,
          sa.hi v short-var,
          (own v short-var).fit (sa.lo v short-var) (sa.hi v short-var),
        ) in
        ap (set la v) e ∙ set-get_or la v 0

    raises : RaisesTo la (line_of w).variable limits (count la) (count la)
    raises = record { under = sits-under sa; caps = caps; var = short-var; full = refl; fits = rw same-grown (omega arith) }

    by-line : product_of 1 limits a b ≡ joined_block false (raised limits (line_of w).variable (line_of w).m a) (scaled (line_of w).c a)
    unfolding linear_product
    by-line =
        product_five limits a b 1 five
        ∙ (ap (λ (x : Way). linear_product (λ y. product_of 0 limits y (constant_block (line_of x).c)) limits (line_of x) a) (sym l.is)
        ∙ (rw (l.zero, by-scale limits (line_of w).c a (λ q. omega (arith, q)) l.one)))

    lined : joined_block false (raised limits (line_of w).variable (line_of w).m a) (scaled (line_of w).c a)
        ≡ block la (table (count la) (λ k. lined_at (line_of w).variable (line_of w).c (line_of w).m a (index la k)))
    lined =
        let j =
        lined-block raises (sym same-grown) (line_of w).c (line_of w).m xs big
        {o = table (count la) (λ k. lined_at (line_of w).variable (line_of w).c (line_of w).m a (index la k))} refl in
        sym (rw j.1
        (ap (λ (z : List ℕ). block z (joined_block false (raised limits (line_of w).variable (line_of w).m a)
        (scaled (line_of w).c a)).places) j.0))

  pub short-value : multiplied limits a b ≡ block la (short_places w la xs)
  short-value = whole ∙ decide (eqb (kind_of w) 3)
      (λ e. by_constant_lem (eqb-true _ _ e) ∙ rw e)
      (λ e. by-line (eqb-false _ _ e) ∙ (lined (eqb-false _ _ e) ∙ rw e))

-- a way that passed the tests is light
light_tested : (a b : Block) (w : Way) → w ≡ chosen 1 a b → is_light w ≡ true → Light a b w
light_tested a b w e h =
    let t = and_left (eqb (kind_of w) 3 || eqb (kind_of w) 5) (not (eq (line_of w).c zero_f || eq (line_of w).c one_f)) h in
    let n =
    neither (eq (line_of w).c zero_f) (eq (line_of w).c one_f)
    (not-true _ (and_right (eqb (kind_of w) 3 || eqb (kind_of w) 5)
    (not (eq (line_of w).c zero_f || eq (line_of w).c one_f)) h)) in
    record {
      is = e;
      zero = n.0;
      one = n.1;
      kind = λ q. eqb-true _ _ (or_right (eqb (kind_of w) 3) (eqb (kind_of w) 5) t (ne_eqb _ _ q));
    }

module _ (a b : Block) where
  pub light-yes : (w : Way) → w ≡ chosen 1 a b → is_light w ≡ true → w ≡ light_way a b
  unfolding light_way
  light-yes w e t = rw (← e, t)

  pub light_no : (w : Way) → w ≡ chosen 1 a b → is_light w ≡ false → long_way ≡ light_way a b
  unfolding light_way
  light_no w e t = rw (← e, t)

  -- a light way that is not the long one
  pub light-is : ((kind_of (light_way a b)) ≡ 6 → ⊥) → Light a b (light_way a b)
  unfolding light_way
  light-is z =
      decide (is_light (chosen 1 a b))
      (λ t. let e : chosen 1 a b ≡ light_way a b = light-yes (chosen 1 a b) refl t in rw e at (light_tested a b (chosen 1 a b) refl t))
      (λ t. absurd (z (rw t refl)))

-- a linear factor that adds no row: the lengths stay
pub short_raising : {w : Way} {n : List ℕ} {m o : ℕ} → ShortBlock w n m o → (kind_of w ≡ 3 → ⊥) → Raising n (line_of w).variable n m o
short_raising p k =
    record {
      var = p.var k;
      from = p.lens;
      to = p.lens;
      other = λ v h z. refl;
      one = omega arith;
      room = omega (arith, p.full);
      full = p.room;
    }

module _ (w : Way) (n : List ℕ) (xs : List Float) {o : List Float} where
  pub scaled-short : kind_of w ≡ 3 → {m : ℕ} → m ≡ count n → o ≡ table m (scaled_at (line_of w).c xs) → o ≡ short_places w n xs
  scaled-short k e h = rw (eq-eqb _ _ k, ← e) h

  pub lined-short : (kind_of w ≡ 3 → ⊥) → o ≡ table (count n)
      (λ k. lined_at (line_of w).variable (line_of w).c (line_of w).m (block n xs) (index n k)) → o ≡ short_places w n xs
  lined-short k h = rw (ne_eqb _ _ k) h
