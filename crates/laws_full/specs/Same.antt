-- A step's result depends on the operands that it needs alone; its lengths are four; and cutting it to limits that its
-- lengths keep to changes nothing.
use Prim.Native.Nat.{ℕ, ◌-◌, ◌≤◌, ◌<◌, min}
use Rattle.std.specs.Prelude.{true, false, ◌≡◌, refl, eqb, ltb, length, get_or, pos}
use Rattle.std.proofs.lemmas.Bool.{false≢true}
use mathlib.Core.List.{List}
use Rattle.std.proofs.Math.Path.{sym, ap, ap₂}
use Rattle.std.proofs.Common.{◌∙◌, arith, zero-mul, lit<, eqb-true, ltb-true, ltb-false}
use Rattle.lists.specs.Test.{decide}
use Rattle.lists.specs.Four.{at, four_same}
use Rattle.model.specs.declared.Header.{Header}
use Rattle.model.specs.declared.Family.{Family}
use Rattle.model.specs.declared.Family.TheVariants.{Constant}
use Rattle.model.specs.Header.{limit}
use Rattle.model.specs.Places.{inside}
use Rattle.model_recipes.specs.declared.Step.{Step}
use Rattle.model_recipes.specs.Recipe.{families}
use Rattle.model_texts.specs.Whole.{needs_first, needs_second}
use Rattle.model_textbook.specs.Sum.{sum}
use Rattle.model_textbook.specs.Textbook.{Series, truncated, power, substitute}
use Rattle.laws_whole.specs.IndexLaws.{four_at_lem}
use Rattle.shape_words.specs.Lengths.{is_inside_lem}
use Rattle.recipes_laws.specs.EachKind.{by_kind}
use Rattle.laws_full.specs.Unlimited.{Value, value, results, no_value, sum_lengths, product_lengths, power_lengths}
use Rattle.laws_full.specs.Unlimited.{shift_lengths, substitution_lengths}
use Rattle.laws_full.specs.Limited.{cut_to}
use Rattle.laws_full.specs.Described.{Bounded, true-not}

-- ---- the operands that are needed

row : Step → ℕ → Value → Value → Value
unfolding results
row s k a b = get_or (results s a b) k no_value

-- one row: nothing is put
kept_same : (A B D : Series) (v : ℕ) → substitute v 1 A B ≡ substitute v 1 A D
unfolding substitute sum power
kept_same A B D v = refl

module _ (s : Step) (a b c d : Value) where
  abbrev family : ℕ → Family
  family k = get_or (families 0 s) k Constant

  of-both-same : (k : ℕ) → a ≡ c → b ≡ d → row s k a b ≡ row s k c d
  of-both-same k p q = ap₂ (row s k) p q

  power-same : (needs_first (family 6) ≡ true → a ≡ c) → row s 6 a b ≡ row s 6 c d
  unfolding row needs_first families power_lengths power
  power-same f =
      decide (eqb s.n 0)
      (λ t. rw (eqb-true s.n 0 t) (ap (λ (l : List ℕ). value l (power a.series 0)) (simp zero-mul)))
      (λ t. ap (λ (x : Value). row s 6 x b) (f (true-not t)))

  substitute-same : (x : ℕ) → (x ≡ 1 → at c.lengths s.variable ≡ 1) → a ≡ c
      → (needs_second (family 10) x ≡ true → b ≡ d) → row s 10 a b ≡ row s 10 c d
  unfolding row needs_second families substitution_lengths
  substitute-same x h p g =
      decide (eqb x 1)
      (λ t.
      ap (λ (y : Value). row s 10 y b) p
      ∙ rw (h (eqb-true x 1 t))
      (ap₂ value (simp zero-mul) (kept_same c.series b.series d.series s.variable)))
      (λ t. of-both-same 10 p (g (true-not t)))

  pub result-same : (x k : ℕ) → (needs_first (family k) ≡ true → x ≡ 1 → at c.lengths s.variable ≡ 1)
      → (needs_first (family k) ≡ true → a ≡ c) → (needs_second (family k) x ≡ true → b ≡ d)
      → get_or (results s a b) k no_value ≡ get_or (results s c d) k no_value
  unfolding row results needs_first needs_second families
  result-same x =
      by_kind (record {
        k0 = λ h f g. refl;
        k1 = λ h f g. ap (λ (y : Value). row s 1 y b) (f refl);
        k2 = λ h f g. of-both-same 2 (f refl) (g refl);
        k3 = λ h f g. of-both-same 3 (f refl) (g refl);
        k4 = λ h f g. of-both-same 4 (f refl) (g refl);
        k5 = λ h f g. of-both-same 5 (f refl) (g refl);
        k6 = λ h f g. power-same f;
        k7 = λ h f g. ap (λ (y : Value). row s 7 y b) (f refl);
        k8 = λ h f g. ap (λ (y : Value). row s 8 y b) (f refl);
        k9 = λ h f g. ap (λ (y : Value). row s 9 y b) (f refl);
        k10 = λ h f g. substitute-same x (h refl) (f refl) g;
        k11 = λ h f g. refl;
        past = λ k h f g. refl;
      })

-- ---- four lengths

pub result-four : (s : Step) (a b : Value) (k : ℕ)
    → (needs_first (get_or (families 0 s) k Constant) ≡ true → length a.lengths ≡ 4)
    → length (get_or (results s a b) k no_value).lengths ≡ 4
unfolding results needs_first families sum_lengths product_lengths power_lengths shift_lengths substitution_lengths
result-four s a b =
    by_kind (record {
      k0 = λ f. refl;
      k1 = λ f. f refl;
      k2 = λ f. refl;
      k3 = λ f. refl;
      k4 = λ f. refl;
      k5 = λ f. refl;
      k6 = λ f. refl;
      k7 = λ f. refl;
      k8 = λ f. refl;
      k9 = λ f. refl;
      k10 = λ f. refl;
      k11 = λ f. refl;
      past = λ k f. refl;
    })

-- ---- limits that the lengths keep to

-- past one of four limits
past-some : (P : Type 0) (n k : List ℕ) → inside n k ≡ false → ((w : ℕ) → w < 4 → at n w ≤ at k w → P) → P
past-some P n k t f =
    let try : (w : ℕ) → w < 4 → (at k w < at n w → P) → P =
    λ w l g. decide (ltb (at k w) (at n w)) (λ u. g (ltb-true _ _ u)) (λ u. f w l (ltb-false _ _ u)) in
    try 0 (lit< tt) (λ p. try 1 (lit< tt) (λ q. try 2 (lit< tt) (λ r. try 3 (lit< tt) (λ s.
    absurd (false≢true (sym t ∙ is_inside_lem (record { i0 = p; i1 = q; i2 = r; i3 = s })))))))

module _ (h : Header) (x : Value) (b : Bounded x) (fits : (w : ℕ) → w < 4 → at x.lengths w ≤ limit h w) where
  -- every coefficient outside the limits is zero
  pub outside-zero : (k : List ℕ) → inside h.limits k ≡ false → x.series k ≡ pos 0
  outside-zero k t = past-some (x.series k ≡ pos 0) h.limits k t (λ w l p. b.past w l k (omega (arith, fits w l)))
