-- The sum of all coefficients goes through each kind: of a sum it is the sum, of a product the product, of a power the
-- power, and a `shift_down` keeps it. Over whole numbers, with no limits.
use Prim.Native.Nat.{ℕ, zero, suc, ◌+◌, ◌-◌, ◌*◌, ◌≤◌, ◌<◌, max}
use mathlib.Core.List.{List}
use Rattle.std.specs.Prelude.{◌≡◌, ℤ, ◌-ℤ◌, ◌*ℤ◌}
use Rattle.std.proofs.Math.Path.{refl, sym, ap, ap₂}
use Rattle.std.proofs.Common.{◌∙◌, arith}
use Rattle.std.proofs.Math.Nat.{suc-mul}
use Rattle.std.proofs.Math.ListN.{length}
use Rattle.std.proofs.Math.IntN.{pos, neg_ℤ, ◌+ℤ◌, zero-*ℤ}
use Rattle.lists.specs.Four.{at, four, at-four}
use Rattle.model.specs.Header.{ones}
use Rattle.model_textbook.specs.Sum.{add_z}
use Rattle.model_textbook.specs.Box.{box, box_z, index_plus, index_minus, degree}
use Rattle.model_textbook.specs.Textbook.{Series, sum_of_all, plus, less, times, one, power}
use Rattle.laws_whole.specs.IndexLaws.{in-box-length, in-box-at, minus-length, add-minus}
use Rattle.laws_whole.specs.SumSizes.{negation}
use Rattle.laws_whole.specs.BoxLaws.{box-same, box-through, box-plus, box_triangle}
use Rattle.laws_whole.specs.BoxSizes.{box_z-times, times-box_z}
use Rattle.laws_full.specs.Unlimited.{constant, negative, sum_lengths, product_lengths, power_lengths}
use Rattle.laws_full.specs.Bounds.{Bounds, bounds-none}
use Rattle.laws_full.proofs.Bounds.{bounds-power}
use Rattle.laws_totals.specs.Boxes.{by-box, minus-at, wider, of_ones, listed}

-- a number to a power
unfoldable pub power_z : ℤ → ℕ → ℤ
power_z x zero = pos 1
power_z x (suc e) = power_z x e *ℤ x

pub constant-total : (c : ℕ) → sum_of_all ones (constant c) ≡ pos c
unfolding sum_of_all constant degree
constant-total c = of_ones (constant c)

module _ (a : List ℕ) (A : Series) where
  pub negative-total : sum_of_all a (negative A) ≡ neg_ℤ (sum_of_all a A)
  unfolding sum_of_all negative
  negative-total = sym (box-through negation A a)

module _ (a b : List ℕ) {A B : Series} (ea : length a ≡ 4) (eb : length b ≡ 4) (f : Bounds (at a) A) (g : Bounds (at b) B) where
  -- ---- sum and difference

  abbrev r : List ℕ
  r = sum_lengths a b

  a-less : box_z r A ≡ box_z a A
  unfolding sum_lengths
  a-less = wider a r ea refl f (λ w l. rw (at-four (λ k. max (at a k) (at b k)) w l) (omega arith))

  b-less : box_z r B ≡ box_z b B
  unfolding sum_lengths
  b-less = wider b r eb refl g (λ w l. rw (at-four (λ k. max (at a k) (at b k)) w l) (omega arith))

  pub plus-total : sum_of_all (sum_lengths a b) (plus A B) ≡ sum_of_all a A +ℤ sum_of_all b B
  unfolding sum_of_all plus
  plus-total = box-plus add_z A B r ∙ ap₂ ◌+ℤ◌ a-less b-less

  pub less-total : sum_of_all (sum_lengths a b) (less A B) ≡ sum_of_all a A -ℤ sum_of_all b B
  unfolding sum_of_all less
  less-total =
      box-plus add_z A (λ j. neg_ℤ (B j)) r
      ∙ ap₂ ◌+ℤ◌ a-less (sym (box-through negation B r) ∙ ap neg_ℤ b-less)

  -- ---- product

  abbrev q : List ℕ
  q = product_lengths a b

  -- an index i of the first: the second is held by what is left behind it
  rest_sum : (i : List ℕ) → length i ≡ 4 → box_z (index_minus q i) (λ d. A i *ℤ B (index_minus (index_plus i d) i)) ≡ A i *ℤ box_z b B
  unfolding product_lengths
  rest_sum i ei =
      let n : List ℕ = index_minus q i in
      let en : length n ≡ 4 = minus-length q i in
      let e : box_z n (λ d. A i *ℤ B (index_minus (index_plus i d) i)) ≡ box_z n (λ d. A i *ℤ B d) =
      box-same add_z _ _ n (λ d u. ap (λ (k : List ℕ). A i *ℤ B k) (add-minus i d (omega (arith, in-box-length u, en, ei)))) in
      e ∙ (sym (times-box_z (A i) B n)
      ∙ by-box a i ea ei
      (λ u.
      ap (λ (x : ℤ). A i *ℤ x)
      (wider b n eb en g (λ w l.
      let m : at i w < at a w = in-box-at u w (omega (arith, ea)) in
      rw (minus-at q i ei w, at-four (λ k. at a k + at b k - 1) w l) (omega arith))))
      (λ w l p. let z : A i ≡ pos 0 = f.past w l i p in rw z (zero-*ℤ (box_z n B) ∙ sym (zero-*ℤ (box_z b B)))))

  pub times-total : sum_of_all (product_lengths a b) (times A B) ≡ sum_of_all a A *ℤ sum_of_all b B
  unfolding sum_of_all times product_lengths
  times-total =
      box_triangle add_z (λ i k. A i *ℤ B (index_minus k i)) q
      ∙ (box-same add_z _ (λ i. A i *ℤ box_z b B) q (λ i u. rest_sum i (in-box-length u))
      ∙ (sym (box_z-times A (box_z b B) q)
      ∙ ap (λ (x : ℤ). x *ℤ box_z b B)
      (wider a q ea refl f (λ w l. rw (at-four (λ k. at a k + at b k - 1) w l) (omega (arith, g.some w l))))))

-- ---- power

one-total : (n : List ℕ) → length n ≡ 4 → ((w : ℕ) → w < 4 → 1 ≤ at n w) → box_z n one ≡ pos 1
unfolding one degree power
one-total n e h =
    wider {A = one} ones n refl e
    (listed (λ k. 1) (bounds-none (λ k. 1) one))
    (λ w l. rw (at-four (λ k. 1) w l) (h w l))
    ∙ of_ones one

-- nothing is asked of what is raised to the power of 0
pub none-total : (a : List ℕ) (A : Series) → sum_of_all (power_lengths 0 a) (power A 0) ≡ pos 1
unfolding sum_of_all power_lengths power
none-total a A = one-total (power_lengths 0 a) refl (λ w l. rw (at-four (λ k. 0 * (at a k - 1) + 1) w l) (omega arith))

module _ (a : List ℕ) {A : Series} (ea : length a ≡ 4) (f : Bounds (at a) A) where
  pub longer : (e w : ℕ) → w < 4 → at (power_lengths (suc e) a) w ≤ at (product_lengths (power_lengths e a) a) w
  unfolding power_lengths product_lengths
  longer e w l =
      rw (
        at-four (λ k. suc e * (at a k - 1) + 1) w l,
        at-four (λ k. at (four (λ k. e * (at a k - 1) + 1)) k + at a k - 1) w l,
        at-four (λ k. e * (at a k - 1) + 1) w l,
      )
      (omega (arith, f.some w l, suc-mul e (at a w - 1)))
