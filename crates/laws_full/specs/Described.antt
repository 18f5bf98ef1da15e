-- A value whose lengths bound its series and are what its full lengths stand for; kept by every kind whose results are
-- polynomials, from the operands that it needs alone.
use Prim.Native.Nat.{ℕ, ◌+◌, ◌-◌, ◌*◌, ◌<◌, max}
use Rattle.std.specs.Prelude.{Bool, true, false, not, ◌≡◌, refl, eqb, get_or}
use Rattle.std.proofs.Math.Bool.{cond}
use Rattle.std.proofs.lemmas.Bool.{false≢true}
use borrow.Author.Tests.{eqb-true}
use Rattle.lists.specs.Test.{decide}
use Rattle.lists.specs.Four.{at, four, at-four}
use Rattle.model.specs.Header.{ones}
use Rattle.model.specs.declared.Family.{Family}
use Rattle.model.specs.declared.Family.TheVariants.{Constant}
use Rattle.model_recipes.specs.declared.Step.{Step}
use Rattle.model_recipes.specs.Recipe.{families}
use Rattle.model_texts.specs.Full.{full_after}
use Rattle.model_texts.specs.Whole.{needs_first, needs_second}
use Rattle.model_textbook.specs.Textbook.{Series, power, substitute}
use Rattle.recipes_laws.specs.EachKind.{by_kind}
use Rattle.laws_full.specs.Unlimited.{Value, results, no_value, constant, sum_lengths, product_lengths, power_lengths}
use Rattle.laws_full.specs.Unlimited.{shift_lengths, substitution_lengths}
use Rattle.laws_full.specs.Made.{is_polynomial}
use Rattle.laws_full.specs.Bounds.{Bounds, bounds-constant, bounds-negative, bounds-plus, bounds-less}
use Rattle.laws_full.specs.Bounds.{bounds-times, bounds-none, bounds-derivative, bounds-expansion}
use Rattle.laws_full.specs.Bounds.{bounds-shifted}
use Rattle.laws_full.specs.Counts.{Counts, counts-one, counts-sum, counts-product, counts-power, counts-shift}
use Rattle.laws_full.specs.Counts.{counts_substitution}

-- ---- lengths bound the series

abbrev pub Bounded : Value → Type 0
Bounded x = Bounds (at x.lengths) x.series

-- four numbers given by variable
pub listed : (n : ℕ → ℕ) {A : Series} → Bounds n A → Bounds (at (four n)) A
listed n b =
    record { some = λ w l. rw (at-four n w l) (b.some w l); past = λ w l k p. b.past w l k (rw (at-four n w l) at p) }

pub bounded-constant : (c : ℕ) → Bounds (at ones) (constant c)
bounded-constant c = listed (λ w. 1) (bounds-constant c)

pub true-not : {b : Bool} → b ≡ false → not b ≡ true
true-not h = rw h

module _ (s : Step) (a b : Value) where
  abbrev pub family : ℕ → Family
  family k = get_or (families 0 s) k Constant

  -- ---- full lengths stand for the lengths, in the variable w: x, y, z those of a in the variable of the step, of a
  -- and of b

  module _ (w : ℕ) (l : w < 4) (x y z : ℕ) where
    abbrev p : ℕ
    p = at a.lengths s.variable

    counts-listed : (n : ℕ → ℕ) {f : ℕ} → Counts f (n w) → Counts f (at (four n) w)
    counts-listed n c = rw (at-four n w l) c

    shift-counts : Counts y (at a.lengths w)
        → Counts (full_after (family 7) w x y z) (at (shift_lengths s.variable s.n a.lengths) w)
    unfolding full_after families shift_lengths
    shift-counts c =
        counts-listed (λ k. cond (eqb k s.variable) (max 1 (at a.lengths k - s.n)) (at a.lengths k))
        (decide (eqb w s.variable) (λ t. rw t (counts-shift s.n c)) (λ t. rw t c))

    substitute-counts : Counts x p → Counts y (at a.lengths w)
        → (needs_second (family 10) x ≡ true → Counts z (at b.lengths w))
        → Counts (full_after (family 10) w x y z) (at (substitution_lengths s.variable a.lengths b.lengths) w)
    unfolding full_after needs_second families substitution_lengths
    substitute-counts c d e =
        counts-listed (λ k. cond (eqb k s.variable) 1 (at a.lengths k) + (p - 1) * (at b.lengths k - 1))
        (decide (eqb w s.variable) (λ t. rw t (counts_substitution c counts-one (λ u. e (true-not u))))
        (λ t. rw t (counts_substitution c d (λ u. e (true-not u)))))

    pub result-counts : (k : ℕ) → is_polynomial (family k) ≡ true → (needs_first (family k) ≡ true → Counts x p)
        → (needs_first (family k) ≡ true → Counts y (at a.lengths w))
        → (needs_second (family k) x ≡ true → Counts z (at b.lengths w))
        → Counts (full_after (family k) w x y z) (at (get_or (results s a b) k no_value).lengths w)
    unfolding results is_polynomial needs_first needs_second families full_after sum_lengths product_lengths power_lengths
    result-counts =
        by_kind (record {
          k0 = λ o c d e. counts-listed (λ w. 1) counts-one;
          k1 = λ o c d e. d refl;
          k2 = λ o c d e.
              counts-listed (λ k. max (at a.lengths k) (at b.lengths k)) (counts-sum (d refl) (e refl));
          k3 = λ o c d e.
              counts-listed (λ k. max (at a.lengths k) (at b.lengths k)) (counts-sum (d refl) (e refl));
          k4 = λ o c d e.
              counts-listed (λ k. at a.lengths k + at b.lengths k - 1) (counts-product (d refl) (e refl));
          k5 = λ o c d e. absurd (false≢true o);
          k6 = λ o c d e.
              counts-listed (λ k. s.n * (at a.lengths k - 1) + 1) (counts-power s.n (λ t. d (true-not t)));
          k7 = λ o c d e. shift-counts (d refl);
          k8 = λ o c d e. shift-counts (d refl);
          k9 = λ o c d e. shift-counts (d refl);
          k10 = λ o c d e. substitute-counts (c refl) (d refl) e;
          k11 = λ o c d e. absurd (false≢true o);
          past = λ k o c d e. counts-listed (λ w. 1) counts-one;
        })
