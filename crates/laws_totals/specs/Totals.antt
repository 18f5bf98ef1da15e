-- REFERENCE 9.8: what `limits` prints as the total of an answer. Of an accepted recipe whose inputs hold whole numbers:
-- at each place that no step of another kind stands in the way of, the number found from the inputs' sums is the sum
-- over all indices of the exact value with no limits anywhere. Asked is that the sizes of each input's coefficients sum
-- to 2 ^ 53 at most, and that the total of each such place is 2 ^ 53 at most in size.
use Rattle.std.specs.Prelude.{ℕ, zero, suc, ◌+◌, ◌-◌, ◌^◌, ◌≤◌, ◌<◌, min, true, cond, List, [], ◌∷◌, ◌≡◌, eqb, ltb, get_or, take, ℤ, pos, nat_abs, Float}
use Rattle.std.proofs.Math.Path.{refl, ap, subst}
use Rattle.std.proofs.Common.{sym, ◌∙◌, get_or-take}
use native.Mathlib.Omega.{arith}
use Rattle.std.proofs.Math.ListN.{length}
use Rattle.std.proofs.Math.Seq.{length-take-le}
use Rattle.std.specs.Float.Ieee.{nan, neg, add, sub, mul}
use Rattle.std.specs.Float.{binary64}
use borrow.Author.Tests.{eqb-true, ltb-true, ltb-false}
use Rattle.lists.specs.Chain.{length-chain}
use Rattle.lists.specs.Four.{at}
use Rattle.lists.specs.Table.{table, length-table, table_at}
use Rattle.lists.specs.Test.{decide}
use Rattle.model.specs.declared.Header.{Header}
use Rattle.model.specs.Header.{limit, len, stored}
use Rattle.model.specs.Readings.{sum_to}
use Rattle.model.specs.Constructed.{whole_f}
use Rattle.model.specs.Word.{header_of}
use Rattle.model_recipes.specs.declared.Step.{Step}
use Rattle.model_recipes.specs.Recipe.{Recipe}
use Rattle.model_recipes.specs.Check.{check_refusal}
use Rattle.model_recipes.specs.Steps.{step_of, rows, uses_of}
use Rattle.model_textbook.specs.Sum.{sum_n}
use Rattle.model_textbook.specs.Textbook.{sum_of_all}
use Rattle.model_figures.specs.Inputs.{input_header, input_coefficients}
use Rattle.model_forecast.specs.Totals.{number_power, amount_of, bar_of, amount_step, bar_step, input_sum, amounts, bars, last_place, answer_amount, answer_bar}
use Rattle.shape_words.specs.Rules.{GoodVar}
use Rattle.recipes_kinds.specs.Known.{small-variable}
use Rattle.recipes_check.specs.Judged.{accepts}
use Rattle.recipes_laws.specs.EachKind.{by_kind}
use Rattle.laws_whole.proofs.Steps.{whole_list}
use Rattle.laws_whole.specs.StoredLaws.{total-stored}
use Rattle.laws_whole.specs.Whole.{Whole, whole_int, whole-unit}
use Rattle.laws_whole.specs.Exact.{whole_neg, whole-add, whole_sub, whole-mul}
use Rattle.laws_full.specs.Unlimited.{Value, no_value, value_at, results, result_of, step_result, input_value, unlimited}
use Rattle.laws_full.specs.Unlimited.{sum_lengths, product_lengths, power_lengths, shift_lengths}
use Rattle.laws_full.specs.Described.{Bounded}
use Rattle.laws_full.specs.Bounds.{bounds-stored, bounds-constant, bounds-negative, bounds-plus, bounds-less, bounds-times}
use Rattle.laws_full.proofs.Bounds.{bounds-power}
use Rattle.laws_full.specs.Bounds.{bounds-none, bounds-shifted}
use Rattle.laws_full.specs.Accepted.{accepted-ordered, accepted-few}
use Rattle.laws_full.specs.Lacking.{good}
use Rattle.laws_full.specs.Places.{chain_first, chain-step}
use Rattle.laws_full.specs.Setting.{size, word, step, head}
use Rattle.laws_full.specs.Chained.{head-input, unlimited-input, unlimited-step}
use Rattle.laws_totals.specs.Boxes.{listed}
use Rattle.laws_totals.specs.Kinds.{constant-total, negative-total, plus-total, less-total, times-total, none-total}
use Rattle.laws_totals.specs.Shifts.{shifted-total}
use Rattle.laws_totals.specs.Powers.{power-whole}

-- the sum over all indices of a value, which is zero past its lengths
abbrev pub total_of : Value → ℤ
total_of v = sum_of_all v.lengths v.series

-- a value, and a float that is its total
pub record Fine (v : Value) (x : Float) : Type 0 where
  pub bounded : Bounded v
  pub four : length v.lengths ≡ 4
  pub whole : Whole x (total_of v)

pub along : {x : Float} {m n : ℤ} → m ≡ n → (nat_abs n ≤ 2 ^ 53 → Whole x n) → nat_abs m ≤ 2 ^ 53 → Whole x m
along {x} e f h = subst (Whole x) (sym e) (f (subst (λ (t : ℤ). nat_abs t ≤ 2 ^ 53) e h))

-- ---- one step s at the place p: a and b its operands' values, x and y what was found for them, i and j what stands in
-- their way

module _ (s : Step) (a b : Value) (x y : Float) (p i j : ℕ) (small : p < 64) (few : s.n < 4294967296) (variable : s.variable < 4) where
  abbrev pub bar_row : ℕ → ℕ
  bar_row k = get_or (64 ∷ i ∷ min i j ∷ min i j ∷ min i j ∷ p ∷ cond (eqb s.n 0) 64 i ∷ p ∷ p ∷ i ∷ []) k p

  abbrev pub amount_row : ℕ → Float
  amount_row k =
      get_or
      (whole_f s.n
      ∷ neg x
      ∷ add binary64 x y
      ∷ sub binary64 x y
      ∷ mul binary64 x y
      ∷ nan
      ∷ number_power s.n x
      ∷ nan
      ∷ nan
      ∷ x
      ∷ [])
      k nan

  abbrev pub value_row : ℕ → Value
  value_row k = get_or (results s a b) k no_value

-- ---- a recipe: xs its inputs' coefficients, and cs the whole numbers
-- that they are

module _ (it : Recipe) (xs : List Float) (cs : ℕ → ℕ → ℤ) where
  -- the exact value of the place p with no limits anywhere, what is found for its total, and what stands in the way
  abbrev pub exact_at : ℕ → Value
  exact_at = value_at (unlimited it cs)

  abbrev pub amount_at : ℕ → Float
  amount_at p = get_or (amounts it.headers xs it.steps) p nan

  abbrev pub bar_at : ℕ → ℕ
  bar_at p = get_or (bars it.headers it.steps) p 64

  pub record Given : Type 0 where
    pub accepted : (check_refusal it).number ≡ 0
    pub wholes : (i k : ℕ) → i < length it.headers → k < stored (input_header it.headers xs i)
        → Whole (get_or (input_coefficients it.headers xs i) k nan) (cs i k)
    pub sizes : (i : ℕ) → i < length it.headers → sum_n (λ k. nat_abs (cs i k)) (stored (input_header it.headers xs i)) 0 ≤ 2 ^ 53
    pub totals : (p : ℕ) → p < size it → 64 ≤ bar_at p → nat_abs (total_of (exact_at p)) ≤ 2 ^ 53

  many-amounts : length (table (length it.headers) (input_sum it.headers xs)) ≡ length it.headers
  many-amounts = length-table (input_sum it.headers xs) (length it.headers)

  abbrev input_bars : List ℕ
  input_bars = table (length it.headers) (λ i. 64)

  many-bars : length input_bars ≡ length it.headers
  many-bars = length-table (λ i. 64) (length it.headers)

  amount-input : (p : ℕ) → p < length it.headers → amount_at p ≡ input_sum it.headers xs p
  unfolding amounts
  amount-input p l =
      chain_first amount_step nan (table (length it.headers) (input_sum it.headers xs)) it.steps p (omega (arith, many-amounts))
      ∙ table_at nan (input_sum it.headers xs) (length it.headers) p l

  amount_step_lem : (p : ℕ) → length it.headers ≤ p → p < size it → amount_at p ≡ amount_step (word it p) (take p (amounts it.headers xs it.steps))
  unfolding amounts
  amount_step_lem p i l =
      rw many-amounts at
      (chain-step amount_step nan (table (length it.headers) (input_sum it.headers xs)) it.steps p (omega (arith, many-amounts))
      (omega (arith, many-amounts)))

  bar_step_lem : (p : ℕ) → length it.headers ≤ p → p < size it → bar_at p ≡ bar_step (word it p) (take p (bars it.headers it.steps))
  unfolding bars
  bar_step_lem p i l =
      rw many-bars at
      (chain-step bar_step 64 input_bars it.steps p (omega (arith, many-bars)) (omega (arith, many-bars)))

  bars-many : length (bars it.headers it.steps) ≡ size it
  unfolding bars
  bars-many = length-chain bar_step input_bars it.steps ∙ rw many-bars refl

  module _ (z : Given) where
    pub input-fine : (p : ℕ) → p < length it.headers → Fine (exact_at p) (amount_at p)
    unfolding input_value header_of input_sum sum_to
    input-fine p l =
        let h : Header = header_of (get_or it.headers p 0) in
        let e : exact_at p ≡ input_value (get_or it.headers p 0) (cs p) = unlimited-input it cs p l in
        let k : head it p ≡ h = head-input it p l in
        let g : (w : ℕ) → w < 4 → GoodVar h.vars w (limit h w) (len h w) = λ w m. rw k at (good it z.accepted p w m) in
        let w : Whole (sum_to (input_coefficients it.headers xs p) (stored h)) (total_of (input_value (get_or it.headers p 0) (cs p))) =
        subst (Whole _) (sym (total-stored h.lengths refl (cs p)))
        (whole_list (input_coefficients it.headers xs p) (cs p) (stored h) (λ i u. z.wholes p i l u) (z.sizes p l)) in
        record {
          bounded = rw e (bounds-stored h.lengths (cs p) (λ w m. (g w m).pos));
          four = rw e refl;
          whole = rw (e, amount-input p l) w;
        }

    module _ (p : ℕ) (i : length it.headers ≤ p) (l : p < size it)
        (of-a : (step it p).a < p → 64 ≤ bar_at (step it p).a → Fine (exact_at (step it p).a) (amount_at (step it p).a))
        (of-b : (step it p).b < p → 64 ≤ bar_at (step it p).b → Fine (exact_at (step it p).b) (amount_at (step it p).b)) where
      abbrev s : Step
      s = step it p

      -- an operand before the place, read off the places before it
      pub operand : (q : ℕ) → q < p → (64 ≤ bar_at q → Fine (exact_at q) (amount_at q))
          → 64 ≤ get_or (take p (bars it.headers it.steps)) q 64
          → Fine (value_at (take p (unlimited it cs)) q) (get_or (take p (amounts it.headers xs it.steps)) q nan)
      operand q u f o =
          rw (get_or-take p (unlimited it cs) q no_value u, get_or-take p (amounts it.headers xs it.steps) q nan u)
          (f (rw (get_or-take p (bars it.headers it.steps) q 64 u) at o))

      pub result-is : exact_at p ≡ result_of s (value_at (take p (unlimited it cs)) s.a) (value_at (take p (unlimited it cs)) s.b)
      unfolding step_result
      result-is = unlimited-step it cs p i l

      pub bar-is : bar_at p ≡ bar_of s p (get_or (take p (bars it.headers it.steps)) s.a 64) (get_or (take p (bars it.headers it.steps)) s.b 64)
      unfolding bar_step
      bar-is =
          let e : length (take p (bars it.headers it.steps)) ≡ p = length-take-le p (bars it.headers it.steps) (omega (arith, bars-many)) in
          bar_step_lem p i l
          ∙ ap (λ (n : ℕ). bar_of s n (get_or (take p (bars it.headers it.steps)) s.a 64) (get_or (take p (bars it.headers it.steps)) s.b 64)) e

      pub amount-is : amount_at p
          ≡ amount_of s (get_or (take p (amounts it.headers xs it.steps)) s.a nan) (get_or (take p (amounts it.headers xs it.steps)) s.b nan)
      unfolding amount_step
      amount-is = amount_step_lem p i l

      pub n-small : s.n < 4294967296
      unfolding step_of
      n-small = omega arith
