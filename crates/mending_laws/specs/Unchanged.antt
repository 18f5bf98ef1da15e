-- A text of plain lines whose words have nothing to mend goes through unchanged.
use Prim.Native.Nat.{ℕ, zero, suc, ◌+◌, ◌*◌, ◌≤◌, ◌<◌}
use Rattle.std.specs.Prelude.{Bool, true, ◌≡◌, length, drop}
use mathlib.Core.List.{List, [], ◌∷◌, ◌++◌}
use Rattle.std.proofs.Math.Path.{refl, sym, ap, ap₂}
use Rattle.std.proofs.Common.{◌∙◌, le_refl, take-add, take_all, get_or-drop}
use native.Mathlib.Omega.{arith}
use Rattle.std.proofs.Math.Dec.{eqb}
use Rattle.std.proofs.Math.ListN.{get_or, take, length-drop}
use borrow.Author.Tests.{eq-eqb}
use Rattle.lists.specs.Every.{every}
use Rattle.lists.specs.Table.{table, table-take, table_same}
use Rattle.model_texts.specs.Hex.{byte_at, is_line, word_at, hex_digit, hex_line}
use Rattle.model_texts.specs.Report.{joined}
use Rattle.model_mending.specs.Lines.{old_digit}
use Rattle.model_mending.specs.Mended.{inputs_in, count_in, lines_in, mend_refusal, new_word, is_kept, change_text}
use Rattle.model_mending.specs.Mended.{new_line, report_text, mended_sheet, mended_text}
use Rattle.mending_laws.specs.Plain.{end_is, digit-is, place-plain}

pub every-all : (f : ℕ → Bool) (n p : ℕ) → ((q : ℕ) → p ≤ q → q < p + n → f q ≡ true) → every f n p ≡ true
unfolding every
every-all f zero p h = refl
every-all f (suc n) p h = rw (h p (omega arith) (omega arith)) (every-all f n (suc p) (λ q a b. h q (omega arith) (omega arith)))

pub joined_same : (f g : ℕ → List ℕ) (n : ℕ) → ((k : ℕ) → k < n → f k ≡ g k) → joined f n ≡ joined g n
unfolding joined
joined_same f g zero h = refl
joined_same f g (suc n) h = rw (joined_same f g n (λ k l. h k (omega arith)), h n (omega arith))

joined-none : (f : ℕ → List ℕ) (n : ℕ) → ((k : ℕ) → k < n → f k ≡ []) → joined f n ≡ []
unfolding joined
joined-none f zero h = refl
joined-none f (suc n) h = rw (joined-none f n (λ k l. h k (omega arith)), h n (omega arith))

-- a text of n lines is the lines of its words
module _ (t : List ℕ) (n : ℕ) (h : (k : ℕ) → k < n → is_line t (17 * k) ≡ true) (long : length t ≡ 17 * n) where
  line-text : (k : ℕ) → k < n → hex_line (word_at t (17 * k)) ≡ take 17 (drop (17 * k) t)
  unfolding hex_line table
  line-text k l =
      let f : ℕ → ℕ = λ j. get_or (drop (17 * k) t) j 0 in
      let w : ℕ = word_at t (17 * k) in
      let d : (j : ℕ) → j < 16 → hex_digit w j ≡ f j = λ j m. digit-is t (17 * k) (h k l) j m ∙ sym (get_or-drop (17 * k) t j 0) in
      let e : 10 ≡ f 16 = sym (get_or-drop (17 * k) t 16 0 ∙ end_is t (17 * k) (h k l)) in
      ap₂ (λ (a : List ℕ) (b : ℕ). a ++ (b ∷ [])) (table_same (hex_digit w) f 16 d) e
      ∙ table-take 0 (drop (17 * k) t) 17 (omega (arith, length-drop (17 * k) t, long))

  lines-front : (k : ℕ) → k ≤ n → joined (λ j. hex_line (word_at t (17 * j))) k ≡ take (17 * k) t
  unfolding joined
  lines-front zero l = refl
  lines-front (suc k) l =
      let e : 17 * k + 17 ≡ 17 * suc k = omega arith in
      ap₂ (λ (a b : List ℕ). a ++ b) (lines-front k (omega arith)) (line-text k (omega arith))
      ∙ (sym (take-add (17 * k) 17 t) ∙ ap (λ (m : ℕ). take m t) e)

  pub lines_are : joined (λ j. hex_line (word_at t (17 * j))) n ≡ t
  lines_are = lines-front n (le_refl _) ∙ take_all (17 * n) t (omega (arith, long))

-- every line is plain, nothing follows the last, and every word is mended already
module _ (t : List ℕ) (h : (k : ℕ) → k < lines_in t → is_line t (17 * k) ≡ true) (long : length t ≡ 17 * lines_in t)
    (fixed : (k : ℕ) → k < lines_in t → new_word t (inputs_in t) (count_in t) k ≡ word_at t (17 * k)) where
  kept : (k : ℕ) → k < lines_in t → is_kept t (inputs_in t) (count_in t) k ≡ true
  unfolding is_kept
  kept k l =
      every-all (λ j. eqb (old_digit t k j) (hex_digit (new_word t (inputs_in t) (count_in t) k) j)) 16 0
      (λ j a b.
      eq-eqb (old_digit t k j) (hex_digit (new_word t (inputs_in t) (count_in t) k) j)
      (ap (λ (p : ℕ). byte_at t (p + j)) (place-plain t (lines_in t) h k (omega arith))
      ∙ (sym (digit-is t (17 * k) (h k l) j (omega arith)) ∙ ap (λ (w : ℕ). hex_digit w j) (sym (fixed k l)))))

  pub no_change : report_text t ≡ []
  unfolding report_text change_text
  no_change = joined-none (change_text t (inputs_in t) (count_in t)) (lines_in t) (λ k l. rw (kept k l))

  pub same_sheet : mended_sheet t ≡ t
  unfolding mended_sheet
  same_sheet =
      joined_same (new_line t (inputs_in t) (count_in t)) (λ j. hex_line (word_at t (17 * j))) (lines_in t) (λ k l. ap hex_line (fixed k l))
      ∙ lines_are t (lines_in t) h long

  pub unchanged : (mend_refusal t).number ≡ 0 → mended_text t ≡ t
  unfolding mended_text
  unchanged e = rw (eq-eqb (mend_refusal t).number 0 e, no_change) same_sheet
