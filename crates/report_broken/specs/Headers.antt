-- A sheet that is refused by 8 though word one and the headers stand on their lines: its headers are right, so it is
-- known how many lines there have to be.
use Prim.Native.Nat.{ℕ, zero, suc, ◌+◌, ◌≤◌}
use Rattle.std.proofs.Math.Bool.{true}
use Rattle.std.specs.Prelude.{◌&&◌, ◌≡◌, length, take}
use mathlib.Core.List.{List, map}
use Rattle.std.proofs.Common.{sym, ◌∙◌, length-take-le}
use Rattle.std.proofs.Math.Path.{ap}
use native.Mathlib.Omega.{arith}
use Rattle.std.proofs.Math.ListN.{get_or}
use Rattle.lists.specs.Every.{every}
use Rattle.lists.specs.Table.{table, length-table, table-take, table_at, table_same}
use Rattle.lists.specs.Test.{decide, and_left, and_right}
use Rattle.model.specs.declared.Refusal.{Refusal}
use Rattle.model.specs.Word.{header_of, good_word}
use Rattle.model_recipes.specs.Check.{or_else}
use Rattle.model_recipes.specs.Recipe.{total}
use Rattle.model_texts.specs.Sheet.{lined, word_on, input_count, sheet_headers, coefficient_count, rest_count, headers_refusal, read_refusal}
use Rattle.model_faults.specs.Broken.{head_lines, all_lines}
use Rattle.recipes_kinds.specs.Known.{Known}
use Rattle.recipes_check.specs.Asks.{or-first, by-refusal}
use Rattle.sheet_reading.specs.Headers.{good-known}
use Rattle.sheet_reading.specs.Reading.{Sized, sized, sizes_test, rest_refusal, after-sizes}
use Rattle.sheet_solving.specs.Opened.{Opened, opened-good, opened-few}

module _ (t : List ℕ) where
  -- headers that stand on their lines are refused by 1 at most
  headers-lined : (n i : ℕ) → every (lined t) n (1 + i) ≡ true → (headers_refusal t n i).number ≤ 1
  unfolding headers_refusal every
  headers-lined zero i e = omega arith
  headers-lined (suc n) i e =
      let l : lined t (1 + i) ≡ true = and_left (lined t (1 + i)) (every (lined t) n (suc (1 + i))) e in
      let q : suc (1 + i) ≡ 1 + suc i = omega arith in
      let r : every (lined t) n (1 + suc i) ≡ true = rw q at (and_right (lined t (1 + i)) (every (lined t) n (suc (1 + i))) e) in
      rw l (decide (good_word (word_on t (1 + i))) (λ g. rw g (headers-lined n (suc i) r)) (λ g. rw g (omega arith)))

  sizes-right : (read_refusal t).number ≡ 8 → lined t 0 ≡ true → Sized t
  unfolding read_refusal
  sizes-right e l =
      decide (sizes_test t) (λ s. sized t l s) (λ s. let m = rw (l, s) at e in absurd (omega (arith, m)))

  pub broken-opened : (read_refusal t).number ≡ 8 → every (lined t) (head_lines t) 0 ≡ true → Opened t
  unfolding every
  broken-opened e a =
      let p : head_lines t ≡ suc (input_count t) = omega arith in
      let h : (lined t 0 && every (lined t) (input_count t) 1) ≡ true = rw p at a in
      let l : lined t 0 ≡ true = and_left (lined t 0) (every (lined t) (input_count t) 1) h in
      let s = sizes-right e l in
      let r : Refusal = headers_refusal t (input_count t) 0 in
      let few = headers-lined (input_count t) 0 (and_right (lined t 0) (every (lined t) (input_count t) 1) h) in
      by-refusal r
      (λ z. record { sizes = s; headers = z })
      (λ z.
      let q : (or_else r (rest_refusal t (rest_count t) (1 + input_count t))).number ≡ 8 = ap (λ (x : Refusal). x.number) (sym (after-sizes t s)) ∙ e in
      let m : r.number ≡ 8 = ap (λ (x : Refusal). x.number) (sym (or-first _ z)) ∙ q in
      absurd (omega (arith, few, m)))

-- 16 inputs of 4,096 coefficients, 48 steps
pub lines-most : {t : List ℕ} → Opened t → all_lines t ≤ 65601
lines-most o = omega (arith, opened-few o, o.sizes.few, o.sizes.fit)

-- sixteen words from line 1 on, and the first n of them
module _ {t words : List ℕ} {n : ℕ} (o : Opened t) (e : words ≡ table 16 (λ j. word_on t (1 + j))) (en : n ≡ input_count t) where
  pub words-many : n ≤ length words
  words-many = omega (arith, ap length e ∙ length-table (λ j. word_on t (1 + j)) 16, o.sizes.few)

  pub words-taken : n ≡ length (take n words)
  words-taken = sym (length-take-le n words words-many)

  pub words-headers : take n words ≡ sheet_headers t
  unfolding sheet_headers
  words-headers =
      let f : ℕ → ℕ = λ j. word_on t (1 + j) in
      let few : n ≤ 16 = omega (arith, o.sizes.few) in
      ap (take n) e
      ∙ (sym (table-take 0 (table 16 f) n (omega (arith, length-table f 16)))
      ∙ (table_same (λ k. get_or (table 16 f) k 0) f n (λ i l. table_at 0 f 16 i (omega arith))
      ∙ ap (λ (k : ℕ). table k f) en))

  pub words-known : Known (map header_of (take n words))
  words-known = rw words-headers (good-known (opened-good o))

  pub words_count : total (map header_of (take n words)) ≡ coefficient_count t
  unfolding coefficient_count
  words_count = ap (λ (l : List ℕ). total (map header_of l)) words-headers

  pub words-few : n ≤ 16
  words-few = omega (arith, o.sizes.few)

  pub words_small : total (map header_of (take n words)) ≤ 65536
  words_small = omega (arith, words_count, opened-few o, o.sizes.few)
