-- What rests on laws of specs/ (Described).
use Prim.Native.Nat.{ℕ, ◌-◌}
use Rattle.std.specs.Prelude.{true, ◌≡◌, refl, eqb, get_or}
use Rattle.std.proofs.lemmas.Bool.{false≢true}
use borrow.Author.Tests.{eqb-true}
use Rattle.lists.specs.Test.{decide}
use Rattle.lists.specs.Four.{at}
use Rattle.model_recipes.specs.declared.Step.{Step}
use Rattle.model_recipes.specs.Recipe.{families}
use Rattle.model_texts.specs.Whole.{needs_first, needs_second}
use Rattle.model_textbook.specs.Textbook.{power, substitute}
use Rattle.recipes_laws.specs.EachKind.{by_kind}
use Rattle.laws_full.specs.Unlimited.{Value, results, no_value, sum_lengths, product_lengths, power_lengths}
use Rattle.laws_full.specs.Unlimited.{shift_lengths, substitution_lengths}
use Rattle.laws_full.specs.Made.{is_polynomial}
use Rattle.laws_full.specs.Bounds.{Bounds, bounds-negative, bounds-plus, bounds-less}
use Rattle.laws_full.specs.Bounds.{bounds-times, bounds-none, bounds-derivative, bounds-expansion}
use Rattle.laws_full.proofs.Bounds.{bounds-power}
use Rattle.laws_full.specs.Bounds.{bounds-shifted}
use Rattle.laws_full.proofs.Bounds.{bounds-substitute, bounds-kept}
use Rattle.laws_full.specs.Described.{Bounded, bounded-constant, family, listed, true-not}

module _ (s : Step) (a b : Value) where
  pub power-bounded : (needs_first ((family s a b) 6) ≡ true → Bounded a)
      → Bounds (at (power_lengths s.n a.lengths)) (power a.series s.n)
  unfolding needs_first families power_lengths
  power-bounded f =
      decide (eqb s.n 0)
      (λ t. let e : s.n ≡ 0 = eqb-true s.n 0 t in rw e (listed _ (bounds-none (at a.lengths) a.series)))
      (λ t. listed _ (bounds-power (f (true-not t)) s.n))

  -- x stands for the length of v, where that is 1
  pub substitute-bounded : (x : ℕ) → (x ≡ 1 → at a.lengths s.variable ≡ 1) → Bounded a
      → (needs_second ((family s a b) 10) x ≡ true → Bounded b)
      → Bounds (at (substitution_lengths s.variable a.lengths b.lengths))
      (substitute s.variable (at a.lengths s.variable) a.series b.series)
  unfolding needs_second families substitution_lengths
  substitute-bounded x h f g =
      decide (eqb x 1)
      (λ t. rw (h (eqb-true x 1 t)) (listed _ (bounds-kept f s.variable (at b.lengths) b.series)))
      (λ t. listed _ (bounds-substitute f s.variable (at a.lengths s.variable) (g (true-not t))))

  pub result-bounded : (x k : ℕ) → is_polynomial ((family s a b) k) ≡ true
      → (needs_first ((family s a b) k) ≡ true → x ≡ 1 → at a.lengths s.variable ≡ 1)
      → (needs_first ((family s a b) k) ≡ true → Bounded a) → (needs_second ((family s a b) k) x ≡ true → Bounded b)
      → Bounded (get_or (results s a b) k no_value)
  unfolding results is_polynomial needs_first needs_second families sum_lengths product_lengths shift_lengths
  result-bounded x =
      by_kind (record {
        k0 = λ o h f g. bounded-constant s.n;
        k1 = λ o h f g. bounds-negative (f refl);
        k2 = λ o h f g. listed _ (bounds-plus (f refl) (g refl));
        k3 = λ o h f g. listed _ (bounds-less (f refl) (g refl));
        k4 = λ o h f g. listed _ (bounds-times (f refl) (g refl));
        k5 = λ o h f g. absurd (false≢true o);
        k6 = λ o h f g. power-bounded f;
        k7 = λ o h f g. listed _ (bounds-derivative (f refl) s.variable s.n);
        k8 = λ o h f g. listed _ (bounds-expansion (f refl) s.variable s.n);
        k9 = λ o h f g. listed _ (bounds-shifted (f refl) s.variable s.n);
        k10 = λ o h f g. substitute-bounded x (h refl) (f refl) g;
        k11 = λ o h f g. absurd (false≢true o);
        past = λ k o h f g. bounded-constant 0;
      })
