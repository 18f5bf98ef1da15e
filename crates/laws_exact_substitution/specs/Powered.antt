-- `subst_var` by a line in v with c zero (document 01, port order 7): row k times m to the k, by running products. That
-- is the exact substitution: each turn of Horner's rule raises by one in v and multiplies by m, so of all rows only one
-- reaches an index.
use Rattle.std.specs.Prelude.{◌≡◌, refl, eqb, length, ℤ, pos, nat_abs, ◌+ℤ◌, ◌*ℤ◌}
use Rattle.std.proofs.Math.Path.{sym, ap}
use Rattle.std.proofs.Common.{◌∙◌, le_refl, mul-le-mul, pow-suc, zero-add, length-set}
use Rattle.std.proofs.Math.Bool.{true≢false}
use mathlib.Core.List.{List}
use Prim.Native.Nat.{ℕ, zero, suc, ◌+◌, ◌-◌, ◌^◌, ◌≤◌, ◌<◌}
use Rattle.std.proofs.Math.Nat.{pow-zero, add-zero}
use native.Mathlib.Omega.{arith}
use Rattle.std.proofs.Math.ListN.{set}
use Rattle.std.proofs.Math.Seq.{set-set}
use Rattle.std.proofs.lemmas.List.{set-get_or}
use Rattle.std.proofs.Math.IntN.{+ℤ_idl, +ℤ_idr, zero-*ℤ}
use Rattle.std.specs.Float.Ieee.{Float, mul, binary64}
use borrow.Author.Tests.{eqb-true, eqb-false}
use Rattle.lists.specs.Test.{decide}
use Rattle.lists.specs.Table.{table}
use Rattle.lists.specs.Walk.{walk, walk_more}
use Rattle.lists.specs.Four.{at, each, at_same}
use Rattle.model.specs.Header.{count}
use Rattle.model.specs.Places.{index}
use Rattle.model.specs.Limits.{cut_to}
use Rattle.model.specs.Poly.{Block, block, read_at}
use Rattle.model.specs.Readings.{one_f}
use Rattle.model.specs.Substitute.{powered}
use Rattle.model_textbook.specs.Textbook.{Series, series_of, times, origin, coefficient_of, substitute}
use Rattle.laws_whole.specs.Int.{abs-mul, *ℤ-unit, *ℤ-assoc}
use Rattle.laws_whole.specs.Whole.{Whole, whole-unit}
use Rattle.laws_whole.specs.Exact.{whole-mul}
use Rattle.laws_whole.specs.IndexLaws.{within-length}
use Rattle.laws_whole.specs.SeriesLaws.{times-comm}
use Rattle.shape_words.specs.Lengths.{is_inside_lem, inside-at}
use Rattle.shape.specs.Cut.{cut_inside, inside-cut}
use Rattle.laws_exact.specs.Factors.{unit, unit-same, raised_z, constant_of, times-constant_of_lem, positive}
use Rattle.laws_exact.proofs.Factors.{times-line}
use Rattle.laws_exact.specs.Wholes.{Wholes, Is, whole-at, stored_at, past-at, index_read, wholes-at}
use Rattle.laws_exact.specs.Firsts.{outside}
use Rattle.laws_exact_substitution.specs.Hornered.{running, running_none, running-step, running-all}

-- m to the n
unfoldable pub pow_z : ℤ → ℕ → ℤ
pow_z m zero = pos 1
pow_z m (suc n) = pow_z m n *ℤ m

pub abs-pow : (m : ℤ) (b : ℕ) → nat_abs m ≤ b → (n : ℕ) → nat_abs (pow_z m n) ≤ b ^ n
unfolding pow_z
abs-pow m b h zero = rw (pow-zero b) (le_refl 1)
abs-pow m b h (suc n) = rw (abs-mul (pow_z m n) m, pow-suc b n) (mul-le-mul (abs-pow m b h n) h)

-- ---- the exact substitution

module _ (v : ℕ) (h : v < 4) (A B : Series) (only : (j : List ℕ) → length j ≡ 4 → (j ≡ unit v → ⊥) → B j ≡ pos 0) where
  origin-other : origin ≡ unit v → ⊥
  origin-other e =
      let z : at origin v ≡ 0 = each (λ v. at origin v ≡ 0) refl refl refl refl v h in
      omega (arith, ap (λ (i : List ℕ). at i v) e, unit-same v h)

  -- by a line without a constant
  times-raise : (X : Series) (k : List ℕ) → length k ≡ 4 → times X B k ≡ raised_z v (B (unit v)) X k
  times-raise X k f =
      times-comm X B k
      ∙ times-line B X k f v h (λ j w o u. only j (within-length w ∙ f) u)
      ∙ ap (λ (x : ℤ). raised_z v (B (unit v)) X k +ℤ x)
      (times-comm X (constant_of B) k ∙ times-constant_of_lem B X k f
      ∙ ap (λ (x : ℤ). x *ℤ X k) (only origin refl origin-other) ∙ zero-*ℤ (X k))
      ∙ +ℤ_idr _

  module _ (p : ℕ) (past : (k : List ℕ) → length k ≡ 4 → p ≤ at k v → A k ≡ pos 0) where
    abbrev m : ℤ
    m = B (unit v)

    running-line : (d n : ℕ) (k : List ℕ) → length k ≡ 4 → n + d ≡ p → running v A B n d k ≡ A (set k v (n + at k v)) *ℤ pow_z m (at k v)
    unfolding coefficient_of pow_z
    running-line zero n k f e =
        running_none v A B n k
        ∙ sym (ap (λ (x : ℤ). x *ℤ pow_z m (at k v))
        (past (set k v (n + at k v)) (length-set k v (n + at k v) ∙ f)
        (rw (at_same k v (n + at k v) (rw f h)) (omega arith))) ∙ zero-*ℤ (pow_z m (at k v)))
    running-line (suc d) n k f e =
        running-step v A B n d k
        ∙ ap (λ (x : ℤ). coefficient_of v n A k +ℤ x) (times-raise (running v A B (suc n) d) k f)
        ∙ decide (eqb (at k v) 0)
        (λ t. let z : at k v ≡ 0 = eqb-true (at k v) 0 t in rw (t, z, add-zero n) (+ℤ_idr (A (set k v n)) ∙ sym (*ℤ-unit (A (set k v n)))))
        (λ t.
        let x : ℕ = at k v - 1 in
        let k' : List ℕ = set k v x in
        let o : 1 ≤ at k v = positive (at k v) (eqb-false (at k v) 0 t) in
        let s : suc n + x ≡ n + at k v = omega arith in
        let r : suc x ≡ at k v = omega arith in
        let q : A (set k' v (suc n + at k' v)) *ℤ pow_z m (at k' v) ≡ A (set k v (n + at k v)) *ℤ pow_z m x =
        rw (at_same k v x (rw f h), set-set k v x (suc n + x), s) in
        rw t
        (+ℤ_idl _
        ∙ ap (λ (y : ℤ). y *ℤ m) (running-line d (suc n) k' (length-set k v x ∙ f) (omega arith) ∙ q)
        ∙ *ℤ-assoc (A (set k v (n + at k v))) (pow_z m x) m
        ∙ ap (λ (y : ℕ). A (set k v (n + at k v)) *ℤ pow_z m y) r))

    pub substitute-line : (k : List ℕ) → length k ≡ 4 → substitute v p A B k ≡ A k *ℤ pow_z m (at k v)
    substitute-line k f =
        sym (running-all v A B p k)
        ∙ running-line p 0 k f (zero-add p)
        ∙ ap (λ (i : List ℕ). A i *ℤ pow_z m (at k v)) (ap (set k v) (zero-add (at k v)) ∙ set-get_or k v 0)

-- ---- the floats

-- the running product
power-whole : {x : Float} {m : ℤ} → Whole x m → (n : ℕ) → ((j : ℕ) → j ≤ n → nat_abs (pow_z m j) ≤ 2 ^ 53)
    → Whole (walk (λ j f. mul binary64 f x) n 0 one_f) (pow_z m n)
unfolding walk pow_z
power-whole w zero b = whole-unit
power-whole {x} w (suc n) b =
    rw (walk_more (λ j f. mul binary64 f x) n 0 one_f)
    (whole-mul (power-whole w n (λ j l. b j (omega arith))) w (b (suc n) (le_refl _)))

module _ (l : List ℕ) (v : ℕ) {a : Block} {z : ℕ → ℤ} (h : v < 4) (u : Wholes a z) {x : Float} {m : ℤ} (w : Whole x m) where
  abbrev A : Series
  A = series_of a.lengths z

  pub powered-is : ((n : ℕ) → n < at a.lengths v → nat_abs (pow_z m n) ≤ 2 ^ 53)
      → ((k : List ℕ) → length k ≡ 4 → at k v < at a.lengths v → nat_abs (A k *ℤ pow_z m (at k v)) ≤ 2 ^ 53)
      → Is l (powered l v a x) (λ k. A k *ℤ pow_z m (at k v))
  unfolding powered
  powered-is small room = record {
    at = λ k f i.
        let n : List ℕ = cut_to l a.lengths in
        let place_at : List ℕ → Float = λ i. mul binary64 (read_at a i) (walk (λ j f. mul binary64 f x) (at i v) 0 one_f) in
        whole-at (block n (table (count n) (λ p. place_at (index n p)))) k
        (λ s.
        let j = cut_inside l a.lengths s in
        let below = inside-at j v h in
        rw (index_read n place_at k f s) (whole-mul (stored_at a k (wholes-at u k) j) (power-whole w (at k v) (λ j e. small j (omega arith))) (room k f below)))
        (λ t. ap (λ (y : ℤ). y *ℤ pow_z m (at k v))
        (past-at a k (wholes-at u k) (outside a.lengths k
        (λ j. true≢false (sym (is_inside_lem (inside-cut i j)) ∙ t)))) ∙ zero-*ℤ (pow_z m (at k v)));
  }
