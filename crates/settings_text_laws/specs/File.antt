-- The file of a store's words is a store's file, and its words are those.
use Prim.Native.Nat.{ℕ, zero, suc, ◌+◌, ◌*◌, ◌^◌, ◌<◌}
use Rattle.std.specs.Prelude.{true, ◌≡◌, ltb, length}
use mathlib.Core.List.{List, [], ◌++◌, append_assoc, append-nil}
use Rattle.std.proofs.Math.Path.{refl, ap, subst}
use Rattle.std.proofs.Common.{sym, ◌∙◌, arith, eq-eqb, ltb-true, ltb-false}
use Rattle.std.proofs.Math.ListN.{drop, length-append}
use Rattle.std.proofs.Math.Seq.{drop-length}
use Rattle.lists.specs.Table.{table, front, table_same, table-all}
use Rattle.lists.specs.Test.{decide}
use Rattle.model_texts.specs.Hex.{is_line, word_at, hex_line}
use Rattle.model_texts.specs.Report.{joined}
use Rattle.sheet_text.specs.Texts.{length-line}
use Rattle.npy_answers.specs.Printed.{LineOf, line-back}
use Rattle.model_settings.specs.Words.{word}
use Rattle.settings_laws.specs.Agree.{every-all}
use Rattle.settings_text.specs.Text.{is_store, store_words, store_text}

-- ---- texts one after the other: what stands before number i, it, and the rest
record Split (f : ℕ → List ℕ) (n i : ℕ) : Type 0 where
  pub rest : List ℕ
  pub is : joined f n ≡ joined f i ++ (f i ++ rest)

split : (f : ℕ → List ℕ) (n i : ℕ) → i < n → Split f n i
unfolding joined
split f zero i h = absurd (omega arith)
split f (suc n) i h =
    decide (ltb i n)
    (λ t.
    let s = split f n i (ltb-true i n t) in
    record {
      rest = s.rest ++ f n;
      is =
          ap (λ (l : List ℕ). l ++ f n) s.is
          ∙ (append_assoc (joined f i) (f i ++ s.rest) (f n)
          ∙ ap (λ (l : List ℕ). joined f i ++ l) (append_assoc (f i) s.rest (f n)));
    })
    (λ t.
    let e : i ≡ n = omega (arith, ltb-false i n t) in
    record { rest = []; is = rw e (ap (λ (l : List ℕ). joined f n ++ l) (sym (append-nil (f n)))) })

module _ (w : List ℕ) where
  abbrev line : ℕ → List ℕ
  line i = hex_line (word w i)

  length-lines : (n : ℕ) → length (joined line n) ≡ 17 * n
  unfolding joined
  length-lines zero = refl
  length-lines (suc n) = length-append (joined line n) (line n) ∙ omega (arith, length-lines n, length-line (word w n))

  length-text : length (store_text w) ≡ 9248
  unfolding store_text
  length-text = length-lines 544

  -- every line is its word's
  line_at_lem : (i : ℕ) → i < 544 → word w i < 2 ^ 64 → LineOf (store_text w) (17 * i) (word w i)
  unfolding store_text
  line_at_lem i h l =
      let s = split line 544 i h in
      let b = line-back (joined line i) s.rest (word w i) l in
      subst (λ (t : List ℕ). LineOf t (17 * i) (word w i)) (sym s.is)
      (subst (λ (p : ℕ). LineOf (joined line i ++ (line i ++ s.rest)) p (word w i)) (length-lines i) b)

  pub store_is : ((i : ℕ) → i < 544 → word w i < 2 ^ 64) → is_store (store_text w) ≡ true
  unfolding is_store
  store_is f =
      rw (eq-eqb (length (store_text w)) 9248 length-text)
      (every-all (λ i. is_line (store_text w) (17 * i)) 544 0 (λ i a b. (line_at_lem i (omega arith) (f i (omega arith))).line))

  -- over any 544 words
  pub store-back :
      (v : List ℕ) → length w ≡ 544 → length v ≡ 544 → ((i : ℕ) → i < 544 → word w i < 2 ^ 64)
      → store_words (store_text w) v ≡ w
  unfolding store_words
  store-back v e d f =
      ap (λ (t : List ℕ). t ++ drop 544 v)
      (table_same (λ i. word_at (store_text w) (17 * i)) (word w) 544 (λ i h. (line_at_lem i h (f i h)).word))
      ∙ (ap (λ (t : List ℕ). table 544 (word w) ++ t) (ap (λ (n : ℕ). drop n v) (sym d) ∙ drop-length v)
      ∙ (append-nil (table 544 (word w)) ∙ (ap (λ (n : ℕ). table n (word w)) (sym e) ∙ table-all 0 w)))
