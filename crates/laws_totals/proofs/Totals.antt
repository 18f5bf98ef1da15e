-- What rests on laws of specs/ (Totals).
use Rattle.std.specs.Prelude.{ℕ, zero, suc, ◌-◌, ◌^◌, ◌≤◌, ◌<◌, true, List, ◌≡◌, eqb, ltb, get_or, ℤ, pos, nat_abs, Float}
use Rattle.std.proofs.Math.Path.{refl, subst}
use Rattle.std.proofs.Common.{sym}
use native.Mathlib.Omega.{arith}
use Rattle.std.proofs.Math.ListN.{length}
use Rattle.std.specs.Float.Ieee.{nan}
use borrow.Author.Tests.{eqb-true, ltb-true, ltb-false}
use Rattle.lists.specs.Four.{at}
use Rattle.lists.specs.Test.{decide}
use Rattle.model_recipes.specs.declared.Step.{Step}
use Rattle.model_recipes.specs.Recipe.{Recipe}
use Rattle.model_recipes.specs.Steps.{rows, uses_of}
use Rattle.model_forecast.specs.Totals.{number_power, amount_of, bar_of, amounts, bars}
use Rattle.recipes_kinds.specs.Known.{small-variable}
use Rattle.recipes_laws.specs.EachKind.{by_kind}
use Rattle.laws_whole.specs.Whole.{Whole, whole_int, whole-unit}
use Rattle.laws_whole.specs.Exact.{whole_neg, whole-add, whole_sub, whole-mul}
use Rattle.laws_full.specs.Unlimited.{Value, value_at, results, result_of, unlimited}
use Rattle.laws_full.specs.Unlimited.{sum_lengths, product_lengths, power_lengths, shift_lengths}
use Rattle.laws_full.specs.Bounds.{bounds-constant, bounds-negative, bounds-plus, bounds-less, bounds-times}
use Rattle.laws_full.proofs.Bounds.{bounds-power}
use Rattle.laws_full.specs.Bounds.{bounds-none, bounds-shifted}
use Rattle.laws_full.specs.Accepted.{accepted-ordered, accepted-few}
use Rattle.laws_full.specs.Setting.{size, word, step}
use Rattle.laws_totals.specs.Boxes.{listed}
use Rattle.laws_totals.specs.Kinds.{constant-total, negative-total, plus-total, less-total, times-total, none-total}
use Rattle.laws_totals.proofs.KindTotals.{power-total}
use Rattle.laws_totals.specs.Shifts.{shifted-total}
use Rattle.laws_totals.specs.Powers.{power-whole}
use Rattle.laws_totals.specs.Totals.{Fine, Given, along, amount-is, amount_row, bar-is, bar_row, input-fine, n-small, operand, result-is, total_of, value_row}

-- ---- one step s at the place p: a and b its operands' values, x and y what was found for them, i and j what stands in
-- their way

module _ (s : Step) (a b : Value) (x y : Float) (p i j : ℕ) (small : p < 64) (few : s.n < 4294967296) (variable : s.variable < 4) where
  pub power-fine : 64 ≤ (bar_row s a b x y p i j small few variable) 6 → (64 ≤ i → Fine a x) → nat_abs (total_of
      ((value_row s a b x y p i j small few variable) 6)) ≤ 2 ^ 53 → Fine ((value_row s a b x y p i j small few variable) 6) (number_power s.n x)
  unfolding results power_lengths number_power
  power-fine o f h =
      decide (eqb s.n 0)
      (λ t.
      let e : s.n ≡ 0 = eqb-true s.n 0 t in
      record {
        bounded = rw e (listed _ (bounds-none (at a.lengths) a.series));
        four = refl;
        whole = rw e (subst (Whole _) (sym (none-total a.lengths a.series)) whole-unit);
      })
      (λ t.
      let g = f (rw t at o) in
      record {
        bounded = listed _ (bounds-power g.bounded s.n);
        four = refl;
        whole = along (power-total a.lengths g.four g.bounded s.n) (λ m. power-whole s.n few g.whole m) h;
      })

  pub row_fine : (k : ℕ) → 64 ≤ (bar_row s a b x y p i j small few variable) k → ((uses_of k).a ≡ true → 64 ≤ i → Fine a x) → ((uses_of k).b
      ≡ true → 64 ≤ j → Fine b y)
      → nat_abs (total_of ((value_row s a b x y p i j small few variable) k)) ≤ 2 ^ 53 → Fine
      ((value_row s a b x y p i j small few variable) k) ((amount_row s a b x y p i j small few variable) k)
  unfolding results rows sum_lengths product_lengths shift_lengths
  row_fine =
      by_kind (record {
        k0 = λ o f g h.
            record {
              bounded = listed (λ w. 1) (bounds-constant s.n);
              four = refl;
              whole = along (constant-total s.n) (λ m. whole_int (pos s.n) m) h;
            };
        k1 = λ o f g h.
            let u = f refl o in
            record {
              bounded = bounds-negative u.bounded;
              four = u.four;
              whole = subst (Whole _) (sym (negative-total a.lengths a.series)) (whole_neg u.whole);
            };
        k2 = λ o f g h.
            let u = f refl (omega arith) in
            let v = g refl (omega arith) in
            record {
              bounded = listed _ (bounds-plus u.bounded v.bounded);
              four = refl;
              whole =
                  along (plus-total a.lengths b.lengths u.four v.four u.bounded v.bounded)
                  (λ m. whole-add u.whole v.whole m) h;
            };
        k3 = λ o f g h.
            let u = f refl (omega arith) in
            let v = g refl (omega arith) in
            record {
              bounded = listed _ (bounds-less u.bounded v.bounded);
              four = refl;
              whole =
                  along (less-total a.lengths b.lengths u.four v.four u.bounded v.bounded)
                  (λ m. whole_sub u.whole v.whole m) h;
            };
        k4 = λ o f g h.
            let u = f refl (omega arith) in
            let v = g refl (omega arith) in
            record {
              bounded = listed _ (bounds-times u.bounded v.bounded);
              four = refl;
              whole =
                  along (times-total a.lengths b.lengths u.four v.four u.bounded v.bounded)
                  (λ m. whole-mul u.whole v.whole m) h;
            };
        k5 = λ o f g h. absurd (omega arith);
        k6 = λ o f g h. power-fine o (f refl) h;
        k7 = λ o f g h. absurd (omega arith);
        k8 = λ o f g h. absurd (omega arith);
        k9 = λ o f g h.
            let u = f refl o in
            record {
              bounded = listed _ (bounds-shifted u.bounded s.variable s.n);
              four = refl;
              whole = subst (Whole _) (sym (shifted-total a.lengths s.variable s.n u.four u.bounded variable)) u.whole;
            };
        k10 = λ o f g h. absurd (omega arith);
        k11 = λ o f g h. absurd (omega arith);
        past = λ k o f g h. absurd (omega arith);
      })

  pub step-fine : 64 ≤ bar_of s p i j → ((uses_of s.kind).a ≡ true → 64 ≤ i → Fine a x) → ((uses_of s.kind).b ≡ true → 64 ≤ j → Fine b y)
      → nat_abs (total_of (result_of s a b)) ≤ 2 ^ 53 → Fine (result_of s a b) (amount_of s x y)
  unfolding bar_of amount_of
  step-fine = row_fine s.kind

-- ---- a recipe: xs its inputs' coefficients, and cs the whole numbers
-- that they are

module _ (it : Recipe) (xs : List Float) (cs : ℕ → ℕ → ℤ) where
  -- the exact value of the place p with no limits anywhere, what is found for its total, and what stands in the way
  abbrev exact_at : ℕ → Value
  exact_at = value_at (unlimited it cs)

  abbrev amount_at : ℕ → Float
  amount_at p = get_or (amounts it.headers xs it.steps) p nan

  abbrev bar_at : ℕ → ℕ
  bar_at p = get_or (bars it.headers it.steps) p 64

  module _ (z : (Given it xs cs)) where
    module _ (p : ℕ) (i : length it.headers ≤ p) (l : p < size it)
        (of-a : (step it p).a < p → 64 ≤ bar_at (step it p).a → Fine (exact_at (step it p).a) (amount_at (step it p).a))
        (of-b : (step it p).b < p → 64 ≤ bar_at (step it p).b → Fine (exact_at (step it p).b) (amount_at (step it p).b)) where
      abbrev s : Step
      s = step it p

      pub place-fine : 64 ≤ bar_at p → Fine (exact_at p) (amount_at p)
      place-fine o =
          let order = accepted-ordered it z.accepted in
          rw ((result-is it xs cs z p i l of-a of-b), (amount-is it xs cs z p i l of-a of-b))
          (step-fine s _ _ _ _ p _ _ (omega (arith, accepted-few it z.accepted)) (n-small it xs cs z p i l of-a of-b) (small-variable (word it p))
          (rw (bar-is it xs cs z p i l of-a of-b) at o)
          (λ u. let v = order.first p i l u in (operand it xs cs z p i l of-a of-b) s.a v (of-a v))
          (λ u. let v = order.second p i l u in (operand it xs cs z p i l of-a of-b) s.b v (of-b v))
          (rw (result-is it xs cs z p i l of-a of-b) at (z.totals p l o)))

    pub below : (n p : ℕ) → p < n → p < size it → 64 ≤ bar_at p → Fine (exact_at p) (amount_at p)
    below zero p u l o = absurd (omega arith)
    below (suc n) p u l o =
        decide (ltb p (length it.headers))
        (λ t. (input-fine it xs cs z) p (ltb-true _ _ t))
        (λ t.
        place-fine p (ltb-false p (length it.headers) t) l (λ v. below n (step it p).a (omega arith) (omega arith))
        (λ v. below n (step it p).b (omega arith) (omega arith)) o)
