-- Of an accepted recipe, at a place that is a polynomial: with no limits anywhere its lengths bound its coefficients,
-- its full lengths stand for its lengths, and its lengths are four. From the operands that are needed alone.
use Rattle.std.specs.Prelude.{ℕ, zero, suc, ◌≤◌, ◌<◌, List, ◌≡◌, ltb, length, get_or, take, ℤ}
use Rattle.std.proofs.Common.{sym, ◌∙◌, arith, get_or-take, ltb-true, ltb-false}
use Rattle.lists.specs.Test.{decide}
use Rattle.lists.specs.Four.{at}
use Rattle.model.specs.declared.Header.{Header}
use Rattle.model.specs.Header.{limit, len}
use Rattle.model.specs.Word.{header_of}
use Rattle.model_recipes.specs.Recipe.{Recipe}
use Rattle.model_recipes.specs.Check.{check_refusal}
use Rattle.shape_words.specs.Rules.{GoodVar}
use Rattle.recipes_kinds.specs.Known.{small-variable}
use Rattle.laws_full.specs.Unlimited.{Value, no_value, value_at, result_of, step_result, input_value, unlimited}
use Rattle.laws_full.specs.Made.{itself, by_first, by_second}
use Rattle.laws_full.specs.Uses.{first-before, second-before, second-first}
use Rattle.laws_full.specs.Places.{full-input, full-step}
use Rattle.laws_full.specs.Bounds.{bounds-stored}
use Rattle.laws_full.specs.Counts.{Counts, counts-is, counts-counted, counts-small}
use Rattle.laws_full.specs.Described.{Bounded, result-counts}
use Rattle.laws_full.specs.Same.{result-four}
use Rattle.laws_full.specs.Accepted.{accepted-ordered}
use Rattle.laws_full.specs.Setting.{size, known, head, lengths, full, word, step, Takes-a, Takes-b, IsPolynomial}
use Rattle.laws_full.specs.Chained.{head-input, unlimited-input, unlimited-step}
use Rattle.laws_full.specs.Lacking.{good}

-- ---- needed operands

module _ (it : Recipe) {p : ℕ} (i : length it.headers ≤ p) where
  pub a_polynomial : IsPolynomial it p → Takes-a it p → IsPolynomial it (step it p).a
  a_polynomial o t = record { each = λ q m. o.each q (by_first i t m) }

  pub b_polynomial : IsPolynomial it p → Takes-b it p → IsPolynomial it (step it p).b
  b_polynomial o t = record { each = λ q m. o.each q (by_second i t m) }

  module _ (z : (check_refusal it).number ≡ 0) (l : p < size it) where
    pub a-before : Takes-a it p → (step it p).a < p
    a-before = first-before (accepted-ordered it z) (lengths it) p i l

    pub b-before : Takes-b it p → (step it p).b < p
    b-before = second-before (accepted-ordered it z) (lengths it) p i l

module _ (it : Recipe) (z : (check_refusal it).number ≡ 0) (cs : ℕ → ℕ → ℤ) where
  -- what the place p is with no limits anywhere
  abbrev pub value_of : ℕ → Value
  value_of = value_at (unlimited it cs)

  pub record Described (p : ℕ) : Type 0 where
    pub bounded : Bounded (value_of p)
    pub counts : (w : ℕ) → w < 4 → Counts (full it p w) (at (value_of p).lengths w)
    pub four : length (value_of p).lengths ≡ 4

  -- an input
  pub input_described : (p : ℕ) → p < length it.headers → p < size it → Described p
  unfolding input_value header_of
  input_described p t l =
      let h : Header = header_of (get_or it.headers p 0) in
      let e : value_of p ≡ input_value (get_or it.headers p 0) (cs p) = unlimited-input it cs p t in
      let k : head it p ≡ h = head-input it p t in
      let g : (w : ℕ) → w < 4 → GoodVar h.vars w (limit h w) (len h w) = λ w m. rw k at (good it z p w m) in
      record {
        bounded = rw e (bounds-stored h.lengths (cs p) (λ w m. (g w m).pos));
        counts = λ w m.
            rw (e, full-input (known it) it.steps (length it.headers) (size it) p w t l m, k)
            (counts-small _ (g w m).pos (omega (arith, (g w m).fit, (g w m).most)));
        four = rw e;
      }

  -- a step, from the operands that it needs
  module _ (p : ℕ) (i : length it.headers ≤ p) (l : p < size it) (of-a : Takes-a it p → Described (step it p).a)
      (of-b : Takes-b it p → Described (step it p).b) where
    abbrev pub operand : ℕ → Value
    operand x = value_at (take p (unlimited it cs)) x

    abbrev pub in_variable : ℕ
    in_variable = full it (step it p).a (step it p).variable

    pub a-is : Takes-a it p → operand (step it p).a ≡ value_of (step it p).a
    a-is t = get_or-take p (unlimited it cs) (step it p).a no_value (a-before it i z l t)

    pub b-is : Takes-b it p → operand (step it p).b ≡ value_of (step it p).b
    b-is t = get_or-take p (unlimited it cs) (step it p).b no_value (b-before it i z l t)

    pub result-is : value_of p ≡ result_of (step it p) (operand (step it p).a) (operand (step it p).b)
    unfolding step_result
    result-is = unlimited-step it cs p i l

    pub in-counts : Takes-a it p → Counts in_variable (at (value_of (step it p).a).lengths (step it p).variable)
    in-counts t = (of-a t).counts (step it p).variable (small-variable (word it p))

    -- where the full length of the variable is 1, so is the length
    pub one-row : Takes-a it p → in_variable ≡ 1
        → at (operand (step it p).a).lengths (step it p).variable ≡ 1
    one-row t e = rw (a-is t) (sym (counts-is (in-counts t) (omega arith)) ∙ e)
