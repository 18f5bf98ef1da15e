-- Document 02, W14: a mended sheet has no fault left that mending is about. Reading it, as `recipe` does, finds nothing
-- to refuse, but for an edition that is not known: its lines, word one's sizes and zeros, its headers, and that nothing
-- follows the last line; and of its steps those of a kind that there is have zero in their spare bits and in every
-- field that they do not use.
use Rattle.std.specs.Prelude.{ℕ, zero, suc, ◌+◌, ◌/◌, ◌%◌, ◌^◌, ◌<◌, true, ◌≡◌, refl}
use mathlib.Core.List.{List}
use Rattle.std.proofs.Math.Path.{sym, ap}
use Rattle.std.proofs.Common.{◌∙◌, add-zero}
use native.Mathlib.Omega.{arith}
use Rattle.lists.specs.Every.{every}
use Rattle.lists.specs.Table.{table, table_same}
use Rattle.lists.specs.Test.{and_right}
use Rattle.model.specs.Word.{good_word}
use Rattle.model.specs.Refusals.{no_refusal}
use Rattle.model_recipes.specs.Steps.{step_of, spare_of, uses_of}
use Rattle.model_recipes.specs.Recipe.{input_heads, total}
use Rattle.model_recipes.specs.Check.{known_edition, right_sizes}
use Rattle.model_texts.specs.Sheet.{lined, word_on, input_count, step_count, spare, sheet_headers, coefficient_count, rest_count, headers_refusal, read_refusal}
use Rattle.model_texts.specs.Sheet.{sheet_edition}
use Rattle.recipes_check.specs.Asks.{or-next}
use Rattle.sheet_reading.specs.Reading.{Sized, sized, sizes_test, rest_refusal, rest-none, after-sizes}
use Rattle.model_mending.specs.Lines.{old_lined, old_word}
use Rattle.model_mending.specs.Words.{word_one_spare, mended_step, used_fields}
use Rattle.model_mending.specs.Mended.{inputs_in, steps_in, header_in, headers_in, count_in, lines_in, header_right, mend_refusal, new_word, mended_sheet}
use Rattle.mending.specs.Headers.{every-at}
use Rattle.mending.specs.Words.{word-step}
use Rattle.mending.specs.Reading.{opened}
use Rattle.mending_laws.specs.Bits.{one-keeps, one-clear, step_keeps, step_clear}
use Rattle.mending_laws.specs.Unchanged.{every-all}
use Rattle.mending_laws.specs.Twice.{Fine, fine, line_of, lines, long, words, some, first, inputs-same, steps-same, header-new}

no_refusal_lem : (t : List ℕ) (n i : ℕ) → ((j : ℕ) → j < n → lined t (1 + (i + j)) ≡ true) → ((j : ℕ) → j < n → good_word (word_on t (1 + (i + j))) ≡ true)
    → headers_refusal t n i ≡ no_refusal
unfolding headers_refusal
no_refusal_lem t zero i f g = refl
no_refusal_lem t (suc n) i f g =
    let e : (j : ℕ) → i + suc j ≡ suc i + j = λ j. omega arith in
    rw (rw (add-zero i) at (f 0 (omega arith)), rw (add-zero i) at (g 0 (omega arith)))
    (no_refusal_lem t n (suc i) (λ j l. rw (e j) at (f (suc j) (omega arith))) (λ j l. rw (e j) at (g (suc j) (omega arith))))

-- what word one says
abbrev pub edition_in : List ℕ → ℕ
edition_in t = old_word t 0 / 2 ^ word_one_spare % 2 ^ 4

module _ (t : List ℕ) (f : Fine t) where
  abbrev u : List ℕ
  u = mended_sheet t

  word-is : (k : ℕ) → k < lines_in t → word_on u k ≡ new_word t (inputs_in t) (count_in t) k
  word-is k l = (line_of t f k l).word

  one-is : word_on u 0 ≡ old_word u 0
  one-is = word-is 0 (some t f) ∙ sym (words t f 0 (some t f))

  inputs_are : input_count u ≡ inputs_in t
  unfolding input_count inputs_in
  inputs_are = ap (λ (w : ℕ). w / 2 ^ 56 % 2 ^ 8) one-is ∙ inputs-same t f

  steps_are : step_count u ≡ steps_in t
  unfolding step_count steps_in
  steps_are = ap (λ (w : ℕ). w / 2 ^ 48 % 2 ^ 8) one-is ∙ steps-same t f

  -- word one's zeros
  pub one-zeros : spare u ≡ 0
  unfolding spare
  one-zeros = ap (λ (w : ℕ). w % 2 ^ word_one_spare) (one-is ∙ first t f) ∙ one-clear (old_word t 0)

  -- the edition is as it was
  pub edition-kept : sheet_edition u ≡ edition_in t
  unfolding sheet_edition
  edition-kept =
      ap (λ (w : ℕ). w / 2 ^ word_one_spare % 2 ^ 4) (one-is ∙ first t f) ∙ ap (λ (w : ℕ). w % 2 ^ 4) (one-keeps (old_word t 0))

  header_is : (i : ℕ) → i < inputs_in t → word_on u (1 + i) ≡ header_in t (1 + i)
  unfolding lines_in
  header_is i l = word-is (1 + i) (omega arith) ∙ header-new t f i l

  header-good : (i : ℕ) → i < inputs_in t → good_word (header_in t (1 + i)) ≡ true
  header-good i l =
      let o = opened t f.readable in
      and_right (old_lined t (1 + i)) _ (every-at (header_right t) (inputs_in t) 1 o.headers (1 + i) (omega arith) (omega arith))

  headers-right : headers_refusal u (input_count u) 0 ≡ no_refusal
  unfolding lines_in
  headers-right =
      rw inputs_are
      (no_refusal_lem u (inputs_in t) 0
      (λ j l. let e : 1 + j ≡ 1 + (0 + j) = omega arith in rw e at (lines t f (1 + j) (omega arith)))
      (λ j l. let e : 1 + j ≡ 1 + (0 + j) = omega arith in rw e at (ap good_word (header_is j l) ∙ header-good j l)))

  count-is : coefficient_count u ≡ count_in t
  unfolding coefficient_count count_in sheet_headers headers_in
  count-is =
      ap (λ (hs : List ℕ). total (input_heads hs))
      (ap (λ (n : ℕ). table n (λ i. word_on u (1 + i))) inputs_are
      ∙ table_same (λ i. word_on u (1 + i)) (λ i. header_in t (1 + i)) (inputs_in t) header_is)

  lines_are : 1 + input_count u + rest_count u ≡ lines_in t
  unfolding lines_in
  lines_are = rw (inputs_are, count-is, steps_are)

  all_lined_lem : every (lined u) (rest_count u) (1 + input_count u) ≡ true
  all_lined_lem = every-all (lined u) (rest_count u) (1 + input_count u) (λ q a b. lines t f q (omega (arith, lines_are)))

  rest-right : no_refusal ≡ rest_refusal u (rest_count u) (1 + input_count u)
  rest-right = rest-none u (rest_count u) (1 + input_count u) all_lined_lem (omega (arith, long t f, lines_are))

  module _ (v : known_edition (edition_in t) ≡ true) where
    sizes-right : sizes_test u ≡ true
    sizes-right =
        let o = opened t f.readable in
        let s = and_right (old_lined t 0) (right_sizes (inputs_in t) (steps_in t)) o.sizes.test in
        rw (edition-kept, v, inputs_are, steps_are, s, one-zeros)

    pub without_fault : (read_refusal u).number ≡ 0
    without_fault =
        let e : (headers_refusal u (input_count u) 0).number ≡ 0 = ap (λ r. r.number) headers-right in
        let s : Sized u = sized u (lines t f 0 (some t f)) sizes-right in
        ap (λ r. r.number) (after-sizes u s ∙ (or-next (headers_refusal u (input_count u) 0) _ e ∙ sym rest-right))

  -- the step on the line k
  module _ (k : ℕ) (l : inputs_in t + count_in t < k) (m : k < lines_in t) where
    step_is : word_on u k ≡ mended_step (old_word t k)
    unfolding new_word
    step_is = word-is k m ∙ sym (word-step (inputs_in t) (count_in t) k (old_word t k) (λ z. omega (arith, z)) (omega arith) l)

    module _ (e : (uses_of (step_of (old_word t k)).kind).kind ≡ true) where
      pub no_junk : spare_of (word_on u k) ≡ 0
      no_junk = ap spare_of step_is ∙ step_clear (old_word t k) e

      pub used-alone : step_of (word_on u k) ≡ used_fields (uses_of (step_of (old_word t k)).kind) (step_of (old_word t k))
      used-alone = ap step_of step_is ∙ step_keeps (old_word t k) e

-- read as `recipe` reads it, a mended sheet of an edition that is known is not refused
pub mended-reads : (t : List ℕ) → (mend_refusal t).number ≡ 0 → known_edition (edition_in t) ≡ true → (read_refusal (mended_sheet t)).number ≡ 0
mended-reads t e v = without_fault t (fine t e) v
