-- A sheet is judged by its first 1,115,218 bytes: 65,601 lines, and one byte that would be too many. So a program may
-- stop reading there.
use Prim.Native.Nat.{ℕ, zero, suc, ◌+◌, ◌*◌, ◌/◌, ◌%◌, ◌^◌, ◌≤◌, ◌<◌}
use mathlib.Core.List.{List}
use Rattle.std.specs.Prelude.{◌≡◌, leb, eqb, length, take}
use Rattle.std.proofs.Math.Path.{refl, ap}
use Rattle.std.proofs.Common.{sym, ◌∙◌, arith, length-take, get_or-take, leb-true, leb-false, le-leb, eqb-true}
use Rattle.std.specs.Float.Ieee.{of_bits, binary64}
use Rattle.std.proofs.lemmas.Bool.{lt-leb, eqb-false}
use Rattle.lists.specs.Every.{every, every-same}
use Rattle.lists.specs.Table.{table, table_same}
use Rattle.lists.specs.Test.{decide}
use Rattle.lists.specs.Walk.{walk_same}
use Rattle.model.specs.declared.Refusal.{Refusal}
use Rattle.model_recipes.specs.Recipe.{input_heads, total}
use Rattle.model_recipes.specs.Check.{or_else}
use Rattle.model_texts.specs.Hex.{is_digit, digit_of, byte_at, digit_at, is_line, push_digit, word_at}
use Rattle.model_texts.specs.Printed.{refused_text}
use Rattle.model_texts.specs.Sheet.{lined, word_on, input_count, step_count, sheet_edition, spare, sheet_headers, coefficient_count}
use Rattle.model_texts.specs.Sheet.{sheet_coefficients, sheet_steps, sheet_recipe, rest_count, headers_refusal, read_refusal}
use Rattle.model_texts.specs.Sheet.{sheet_refusal, last_value, sheet_output}
use Rattle.recipes_check.specs.Asks.{or-first}
use Rattle.sheet_reading.specs.Reading.{Sized, sized, sizes_test, rest_refusal, after-sizes, count_small}
use Rattle.sheet_solving.specs.Opened.{Opened, opened, opened-few}
use Rattle.sheet.specs.Output.{output-read}

abbrev pub read_at_most : ℕ
read_at_most = 1115218

module _ (t : List ℕ) where
  abbrev u : List ℕ
  u = take read_at_most t

  pub byte-same : (p : ℕ) → p < read_at_most → byte_at u p ≡ byte_at t p
  byte-same p h = get_or-take read_at_most t p 0 h

  pub line_same : (k : ℕ) → k < 65601 → lined u k ≡ lined t k
  unfolding is_line
  line_same k h =
      let d : every (digit_at u) 16 (17 * k) ≡ every (digit_at t) 16 (17 * k) =
      every-same (digit_at u) (digit_at t) 16 (17 * k) (λ q a b. ap is_digit (byte-same q (omega arith))) in
      rw (d, byte-same (17 * k + 16) (omega arith))

  word_same : (k : ℕ) → k < 65601 → word_on u k ≡ word_on t k
  unfolding word_at
  word_same k h = walk_same (push_digit u) (push_digit t) 16 (17 * k) 0 (λ q a b w. ap (λ (x : ℕ). 16 * w + digit_of x) (byte-same q (omega arith)))

  pub inputs-same : input_count u ≡ input_count t
  unfolding input_count
  inputs-same = ap (λ (w : ℕ). w / 2 ^ 56 % 2 ^ 8) (word_same 0 (omega arith))

  pub steps-same : step_count u ≡ step_count t
  unfolding step_count
  steps-same = ap (λ (w : ℕ). w / 2 ^ 48 % 2 ^ 8) (word_same 0 (omega arith))

  pub edition-same : sheet_edition u ≡ sheet_edition t
  unfolding sheet_edition
  edition-same = ap (λ (w : ℕ). w / 2 ^ 44 % 2 ^ 4) (word_same 0 (omega arith))

  pub spare-same : spare u ≡ spare t
  unfolding spare
  spare-same = ap (λ (w : ℕ). w % 2 ^ 44) (word_same 0 (omega arith))

  headers-same : sheet_headers u ≡ sheet_headers t
  unfolding sheet_headers
  headers-same =
      ap (λ (n : ℕ). table n (λ i. word_on u (1 + i))) inputs-same
      ∙ table_same (λ i. word_on u (1 + i)) (λ i. word_on t (1 + i)) (input_count t) (λ i l. word_same (1 + i) (omega (arith, count_small t)))

  pub count_same : coefficient_count u ≡ coefficient_count t
  unfolding coefficient_count
  count_same = ap (λ (hs : List ℕ). total (input_heads hs)) headers-same

  refusal-same : (n i : ℕ) → i + n < 65600 → headers_refusal u n i ≡ headers_refusal t n i
  unfolding headers_refusal
  refusal-same zero i h = refl
  refusal-same (suc n) i h = rw (line_same (1 + i) (omega arith), word_same (1 + i) (omega arith), refusal-same n (suc i) (omega arith))

  pub length-same : (m : ℕ) → m < read_at_most → leb (length u) m ≡ leb (length t) m
  length-same m h =
      decide (leb (length t) m)
      (λ a. le-leb (length u) m (omega (arith, length-take read_at_most t, leb-true (length t) m a)) ∙ sym a)
      (λ a. lt-leb (length u) m (omega (arith, length-take read_at_most t, leb-false (length t) m a)) ∙ sym a)

  rest-same : (n from : ℕ) → from + n ≤ 65601 → rest_refusal u n from ≡ rest_refusal t n from
  rest-same n from h = rw (every-same (lined u) (lined t) n from (λ q a b. line_same q (omega arith)), length-same (17 * (from + n)) (omega arith))

  test-same : sizes_test u ≡ sizes_test t
  test-same = rw (edition-same, inputs-same, steps-same, spare-same)

  headers-refused : headers_refusal u (input_count u) 0 ≡ headers_refusal t (input_count t) 0
  headers-refused = ap (λ (n : ℕ). headers_refusal u n 0) inputs-same ∙ refusal-same (input_count t) 0 (omega (arith, count_small t))

  -- all lines, where the headers are not refused
  pub lines-few : Opened t → 1 + input_count t + rest_count t ≤ 65601
  lines-few o = omega (arith, opened-few o, o.sizes.few, o.sizes.fit)

  after-headers : Sized t → read_refusal u ≡ read_refusal t
  after-headers s =
      let su : Sized u = sized u (line_same 0 (omega arith) ∙ s.line) (test-same ∙ s.test) in
      let r : Refusal = headers_refusal t (input_count t) 0 in
      let c : 1 + input_count u ≡ 1 + input_count t = ap (λ (n : ℕ). 1 + n) inputs-same in
      let rest : r.number ≡ 0 → rest_refusal u (rest_count u) (1 + input_count u) ≡ rest_refusal t (rest_count t) (1 + input_count t) =
      λ z. rw (count_same, steps-same, c) (rest-same (rest_count t) (1 + input_count t) (lines-few (record { sizes = s; headers = z }))) in
      let both : or_else r (rest_refusal u (rest_count u) (1 + input_count u)) ≡ or_else r (rest_refusal t (rest_count t) (1 + input_count t)) =
      decide (eqb r.number 0)
      (λ a. ap (or_else r) (rest (eqb-true _ _ a)))
      (λ a. or-first _ (eqb-false r.number 0 a) ∙ sym (or-first _ (eqb-false r.number 0 a))) in
      after-sizes u su ∙ (ap (λ (x : Refusal). or_else x (rest_refusal u (rest_count u) (1 + input_count u))) headers-refused ∙ (both ∙ sym (after-sizes t s)))

  pub read_same : read_refusal u ≡ read_refusal t
  unfolding read_refusal
  read_same =
      decide (lined t 0)
      (λ a. decide (sizes_test t)
      (λ b. after-headers (sized t a b))
      (λ b. rw (line_same 0 (omega arith), a, test-same, b)))
      (λ a. rw (line_same 0 (omega arith), a))

  module _ (o : Opened t) where
    coefficients-same : sheet_coefficients u ≡ sheet_coefficients t
    unfolding sheet_coefficients
    coefficients-same =
        rw (count_same, inputs-same)
        (table_same (λ j. of_bits binary64 (word_on u (1 + input_count t + j))) (λ j. of_bits binary64 (word_on t (1 + input_count t + j)))
        (coefficient_count t)
        (λ j l. ap (of_bits binary64) (word_same (1 + input_count t + j) (omega (arith, lines-few o)))))

    step_words-same : sheet_steps u ≡ sheet_steps t
    unfolding sheet_steps
    step_words-same =
        rw (steps-same, count_same, inputs-same)
        (table_same (λ j. word_on u (1 + input_count t + coefficient_count t + j)) (λ j. word_on t (1 + input_count t + coefficient_count t + j)) (step_count t)
        (λ j l. word_same (1 + input_count t + coefficient_count t + j) (omega (arith, lines-few o))))

    opened-same : sheet_output u ≡ sheet_output t
    unfolding sheet_output sheet_refusal last_value sheet_recipe
    opened-same = rw (read_same, edition-same, headers-same, coefficients-same, step_words-same, steps-same)

  pub sheet-front : sheet_output (take read_at_most t) ≡ sheet_output t
  sheet-front =
      decide (eqb (read_refusal t).number 0)
      (λ a. opened-same (opened t (eqb-true _ _ a)))
      (λ a.
      let z = eqb-false (read_refusal t).number 0 a in
      output-read u refl (rw read_same z) ∙ (ap refused_text read_same ∙ sym (output-read t refl z)))
