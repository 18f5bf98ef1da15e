-- Document 02, W14: mending twice equals mending once, of the mended sheet without the lines printed before it; and a
-- mended sheet has no fault left that mending is about.
use Prim.Native.Nat.{ℕ, zero, suc, ◌+◌, ◌-◌, ◌*◌, ◌/◌, ◌%◌, ◌^◌, ◌≤◌, ◌<◌}
use Rattle.std.proofs.Math.Bool.{true}
use mathlib.Core.List.{List, [], ◌++◌, append_assoc, append-nil}
use Rattle.std.specs.Prelude.{◌≡◌, refl, ltb, length}
use Rattle.std.proofs.Math.Path.{sym, ap, subst}
use Rattle.std.proofs.Common.{◌∙◌, pow-suc, ltb-true, ltb-false}
use native.Mathlib.Omega.{arith}
use Rattle.lists.specs.Table.{table, table_same}
use Rattle.lists.specs.Test.{decide, and_right}
use Rattle.lists.specs.Walk.{walk, walk_more}
use Rattle.model.specs.Word.{good_word}
use Rattle.model.specs.Refusals.{no_refusal}
use Rattle.model_recipes.specs.Recipe.{input_heads, total}
use Rattle.model_recipes.specs.Check.{ask_at, right_sizes}
use Rattle.model_texts.specs.Hex.{byte_at, is_line, push_digit, word_at}
use Rattle.model_texts.specs.Report.{joined}
use Rattle.sheet_text.specs.Lines.{digit-small}
use Rattle.recipes_check.specs.Asks.{ask-none}
use Rattle.npy_answers.specs.Printed.{LineOf, line-back}
use Rattle.model_mending.specs.Lines.{low, is_old_line, line_at, old_lined, old_word}
use Rattle.model_mending.specs.Words.{mended_one, mended_header, mended_word}
use Rattle.model_mending.specs.Mended.{inputs_in, steps_in, header_in, headers_in, count_in, lines_in, header_right, is_readable, is_within, mend_refusal}
use Rattle.model_mending.specs.Mended.{new_word, new_line, mended_sheet, mended_text}
use Rattle.mending.specs.Headers.{every-at}
use Rattle.mending.specs.Words.{word-one, word-header}
use Rattle.mending.specs.Reading.{opened, first_test, headers_test, rest_test}
use Rattle.mending.specs.Changes.{sheet-length}
use Rattle.mending_laws.specs.Plain.{old-plain, word-plain, place-plain}
use Rattle.mending_laws.specs.Bits.{header_fixed, header-clear, word-most, word-again}
use Rattle.mending_laws.specs.Unchanged.{every-all, unchanged}

-- a word of 16 digits
walk-small : (t : List ℕ) (n p : ℕ) → walk (push_digit t) n p 0 < 16 ^ n
unfolding walk
walk-small t zero p = omega arith
walk-small t (suc n) p =
    rw (walk_more (push_digit t) n p 0, pow-suc 16 n) (omega (arith, walk-small t n p, digit-small (byte_at t (p + n))))

pub word_small : (t : List ℕ) (p : ℕ) → word_at t p < 2 ^ 64
unfolding word_at
word_small t p = walk-small t 16 p

-- texts one after the other: what stands before number i, it, and the rest
record Split (f : ℕ → List ℕ) (n i : ℕ) : Type 0 where
  pub rest : List ℕ
  pub is : joined f n ≡ joined f i ++ (f i ++ rest)

split : (f : ℕ → List ℕ) (n i : ℕ) → i < n → Split f n i
unfolding joined
split f zero i h = absurd (omega arith)
split f (suc n) i h =
    decide (ltb i n)
    (λ t.
    let s = split f n i (ltb-true i n t) in
    record {
      rest = s.rest ++ f n;
      is =
          ap (λ (l : List ℕ). l ++ f n) s.is
          ∙ (append_assoc (joined f i) (f i ++ s.rest) (f n)
          ∙ ap (λ (l : List ℕ). joined f i ++ l) (append_assoc (f i) s.rest (f n)));
    })
    (λ t.
    let e : i ≡ n = omega (arith, ltb-false i n t) in
    record { rest = []; is = rw e (ap (λ (l : List ℕ). joined f n ++ l) (sym (append-nil (f n)))) })

-- where a text is not refused
pub record Fine (t : List ℕ) : Type 0 where
  pub readable : is_readable t ≡ true
  pub within : is_within t ≡ true

pub fine : (t : List ℕ) → (mend_refusal t).number ≡ 0 → Fine t
unfolding mend_refusal
fine t e =
    let a = ask-none (is_readable t) 64 (ask_at (is_within t) 5 64 no_refusal) (λ z. omega (arith, z)) e in
    let b = ask-none (is_within t) 64 no_refusal (λ z. omega (arith, z)) a.1 in
    record { readable = a.0; within = b.0 }

pub fine-none : (t : List ℕ) → Fine t → (mend_refusal t).number ≡ 0
unfolding mend_refusal
fine-none t f = rw (f.readable, f.within)

-- t a text that is not refused, u its mended sheet
module _ (t : List ℕ) (f : Fine t) where
  abbrev u : List ℕ
  u = mended_sheet t

  abbrev new : ℕ → ℕ
  new k = new_word t (inputs_in t) (count_in t) k

  new-small : (k : ℕ) → new k < 2 ^ 64
  unfolding new_word
  new-small k = word-most (inputs_in t) (count_in t) k (old_word t k) (word_small (low t) (line_at t k))

  -- its lines, one after the other
  pub line_of : (k : ℕ) → k < lines_in t → LineOf u (17 * k) (new k)
  unfolding mended_sheet
  line_of k l =
      let g : ℕ → List ℕ = new_line t (inputs_in t) (count_in t) in
      let s = split g (lines_in t) k l in
      subst (λ (x : List ℕ). LineOf x (17 * k) (new k)) (sym s.is)
      (subst (λ (p : ℕ). LineOf (joined g k ++ (g k ++ s.rest)) p (new k)) (sheet-length t (inputs_in t) (count_in t) k)
      (line-back (joined g k) s.rest (new k) (new-small k)))

  pub lines : (k : ℕ) → k < lines_in t → is_line u (17 * k) ≡ true
  lines k l = (line_of k l).line

  -- nothing follows the last
  pub long : length u ≡ 17 * lines_in t
  unfolding mended_sheet
  long = sheet-length t (inputs_in t) (count_in t) (lines_in t)

  place : (k : ℕ) → k ≤ lines_in t → line_at u k ≡ 17 * k
  place k l = place-plain u (lines_in t) lines k l

  -- its words are the mended ones
  pub words : (k : ℕ) → k < lines_in t → old_word u k ≡ new k
  words k l = ap (word_at (low u)) (place k (omega arith)) ∙ (word-plain u (17 * k) (lines k l) ∙ (line_of k l).word)

  lined : (k : ℕ) → k < lines_in t → old_lined u k ≡ true
  lined k l = ap (is_old_line u) (place k (omega arith)) ∙ old-plain u (17 * k) (lines k l)

  pub some : 0 < lines_in t
  unfolding lines_in
  some = omega arith

  pub first : old_word u 0 ≡ mended_one (old_word t 0)
  unfolding new_word
  first = words 0 some ∙ sym (word-one (inputs_in t) (count_in t) 0 (old_word t 0) refl)

  -- word one's sizes stand above its spare bits
  sizes-kept : old_word u 0 / 2 ^ 48 ≡ old_word t 0 / 2 ^ 48
  unfolding mended_one
  sizes-kept = ap (λ (w : ℕ). w / 2 ^ 48) first ∙ omega arith

  pub inputs-same : inputs_in u ≡ inputs_in t
  unfolding inputs_in
  inputs-same = upper (old_word u 0) (old_word t 0) sizes-kept
    where
      upper : (x y : ℕ) → x / 2 ^ 48 ≡ y / 2 ^ 48 → x / 2 ^ 56 % 2 ^ 8 ≡ y / 2 ^ 56 % 2 ^ 8
      upper x y e = let d : x / 2 ^ 56 ≡ y / 2 ^ 56 = omega (arith, e) in ap (λ (z : ℕ). z % 2 ^ 8) d

  pub steps-same : steps_in u ≡ steps_in t
  unfolding steps_in
  steps-same = ap (λ (w : ℕ). w % 2 ^ 8) sizes-kept

  -- its headers are the mended ones
  pub header-new : (i : ℕ) → i < inputs_in t → new (1 + i) ≡ header_in t (1 + i)
  unfolding new_word
  header-new i l = sym (word-header (inputs_in t) (count_in t) (1 + i) (old_word t (1 + i)) (λ z. omega (arith, z)) (omega arith))

  pub header-same : (i : ℕ) → i < inputs_in t → header_in u (1 + i) ≡ header_in t (1 + i)
  unfolding lines_in
  header-same i l =
      let w : ℕ = old_word t (1 + i) in
      ap mended_header (words (1 + i) (omega arith) ∙ header-new i l) ∙ header_fixed (mended_header w) (header-clear w)

  pub headers-same : headers_in u ≡ headers_in t
  unfolding headers_in
  headers-same =
      ap (λ (n : ℕ). table n (λ i. header_in u (1 + i))) inputs-same
      ∙ table_same (λ i. header_in u (1 + i)) (λ i. header_in t (1 + i)) (inputs_in t) header-same

  pub count_same : count_in u ≡ count_in t
  unfolding count_in
  count_same = ap (λ (hs : List ℕ). total (input_heads hs)) headers-same

  pub lines_same : lines_in u ≡ lines_in t
  unfolding lines_in
  lines_same = rw (inputs-same, count_same, steps-same)

  first_test_lem : first_test u ≡ true
  first_test_lem =
      let o = opened t f.readable in
      rw (lined 0 some, inputs-same, steps-same) (and_right (old_lined t 0) (right_sizes (inputs_in t) (steps_in t)) o.sizes.test)

  headers_test_lem : headers_test u ≡ true
  unfolding lines_in
  headers_test_lem =
      let o = opened t f.readable in
      rw inputs-same
      (every-all (header_right u) (inputs_in t) 1
      (λ q a b.
      let i : ℕ = q - 1 in
      let e : q ≡ 1 + i = omega arith in
      let g : good_word (header_in t q) ≡ true = and_right (old_lined t q) _ (every-at (header_right t) (inputs_in t) 1 o.headers q a b) in
      let s : header_in u q ≡ header_in t q =
      ap (header_in u) e ∙ (header-same i (omega arith) ∙ ap (header_in t) (sym e)) in
      rw (lined q (omega arith), s) g))

  rest_test_lem : rest_test u ≡ true
  unfolding lines_in
  rest_test_lem =
      rw (count_same, steps-same, inputs-same)
      (every-all (old_lined u) (count_in t + steps_in t) (1 + inputs_in t) (λ q a b. lined q (omega arith)))

  sheet-fine : Fine u
  unfolding is_readable is_within
  sheet-fine = record { readable = rw (first_test_lem, headers_test_lem, rest_test_lem); within = rw (headers-same, count_same) f.within }

  -- every word is mended already
  new-same : (k : ℕ) → k < lines_in t → new_word u (inputs_in u) (count_in u) k ≡ word_at u (17 * k)
  unfolding new_word
  new-same k l =
      rw (inputs-same, count_same)
      (ap (mended_word (inputs_in t) (count_in t) k) (words k l)
      ∙ (word-again (inputs_in t) (count_in t) k (old_word t k) ∙ sym (line_of k l).word))

  pub once_more : mended_text u ≡ u
  once_more =
      unchanged u (λ k l. lines k (omega (arith, lines_same))) (omega (arith, long, lines_same)) (λ k l. new-same k (omega (arith, lines_same)))
      (fine-none u sheet-fine)

-- mending twice equals mending once: the mended sheet of a text that is not refused goes through unchanged
pub mending_twice : (t : List ℕ) → (mend_refusal t).number ≡ 0 → mended_text (mended_sheet t) ≡ mended_sheet t
mending_twice t e = once_more t (fine t e)
