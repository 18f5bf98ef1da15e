-- Mending is decided by the first 1,180,818 bytes of a text, 65,601 lines of 18 bytes: so a program may stop reading
-- there.
use Prim.Native.Nat.{ℕ, zero, suc, ◌+◌, ◌*◌, ◌/◌, ◌%◌, ◌^◌, ◌≤◌, ◌<◌}
use Rattle.std.specs.Prelude.{true, ◌≡◌, take}
use mathlib.Core.List.{List, ◌++◌}
use Rattle.std.proofs.Math.Path.{refl, ap, ap₂}
use Rattle.std.proofs.Common.{sym, ◌∙◌, get_or-take}
use native.Mathlib.Omega.{arith}
use Rattle.std.proofs.Math.Dec.{eqb}
use Rattle.std.proofs.Math.ListN.{length-map}
use Rattle.lists.specs.Every.{every, every-same}
use Rattle.lists.specs.Table.{table, table_same, length-table}
use Rattle.lists.specs.Test.{decide}
use Rattle.lists.specs.Walk.{walk_same}
use Rattle.model.specs.Word.{header_of}
use Rattle.model_recipes.specs.Recipe.{input_heads, total}
use Rattle.model_texts.specs.Hex.{is_digit, digit_of, byte_at, digit_at, push_digit, word_at, hex_digit, hex_line}
use Rattle.model_texts.specs.Printed.{space, decimal}
use Rattle.model_texts.specs.Report.{joined}
use Rattle.sheet_reading.specs.Headers.{total-most}
use Rattle.model_mending.specs.Lines.{lowered, low, end_at, is_old_line, line_at, old_lined, old_word, old_digit}
use Rattle.model_mending.specs.Words.{mended_header}
use Rattle.model_mending.specs.Mended.{inputs_in, steps_in, header_in, headers_in, count_in, lines_in, header_right, is_readable, is_within}
use Rattle.model_mending.specs.Mended.{new_word, is_kept, change_line, change_text, new_line, report_text, mended_sheet, mended_text}
use Rattle.mending.specs.Lines.{low_byte, end-most, line-most}
use Rattle.mending.specs.Headers.{heads-good}
use Rattle.mending.specs.Reading.{Sized, sized, first_test, headers_test, rest_test, inputs-small, Opened, opened}
use Rattle.mending.specs.Ended.{refused_8, refused_5, mended}
use Rattle.mending_laws.specs.Unchanged.{joined_same}

abbrev pub read_at_most : ℕ
read_at_most = 1180818

-- u: a text that agrees with t as far as that
module _ (t u : List ℕ) (byte-same : (p : ℕ) → p < read_at_most → byte_at u p ≡ byte_at t p) where
  low_same : (p : ℕ) → p < read_at_most → byte_at (low u) p ≡ byte_at (low t) p
  low_same p h = low_byte u p ∙ (ap lowered (byte-same p h) ∙ sym (low_byte t p))

  end_same : (p : ℕ) → p + 16 < read_at_most → end_at u p ≡ end_at t p
  unfolding end_at
  end_same p h = rw (byte-same (p + 16) h)

  place_same : (k : ℕ) → k ≤ 65601 → line_at u k ≡ line_at t k
  unfolding line_at
  place_same zero h = refl
  place_same (suc k) h =
      ap (λ (p : ℕ). end_at u p + 1) (place_same k (omega arith))
      ∙ ap (λ (p : ℕ). p + 1) (end_same (line_at t k) (omega (arith, line-most t k)))

  line_same : (p : ℕ) → p + 17 < read_at_most → is_old_line u p ≡ is_old_line t p
  unfolding is_old_line
  line_same p h =
      let d : every (digit_at (low u)) 16 p ≡ every (digit_at (low t)) 16 p =
      every-same (digit_at (low u)) (digit_at (low t)) 16 p (λ q a b. ap is_digit (low_same q (omega arith))) in
      rw (d, end_same p (omega arith), byte-same (end_at t p) (omega (arith, end-most t p)))

  lined-same : (k : ℕ) → k < 65601 → old_lined u k ≡ old_lined t k
  lined-same k h = ap (is_old_line u) (place_same k (omega arith)) ∙ line_same (line_at t k) (omega (arith, line-most t k))

  digits_same : (p : ℕ) → p + 16 < read_at_most → word_at (low u) p ≡ word_at (low t) p
  unfolding word_at
  digits_same p h =
      walk_same (push_digit (low u)) (push_digit (low t)) 16 p 0 (λ q a b w. ap (λ (x : ℕ). 16 * w + digit_of x) (low_same q (omega arith)))

  word_same : (k : ℕ) → k < 65601 → old_word u k ≡ old_word t k
  word_same k h = ap (word_at (low u)) (place_same k (omega arith)) ∙ digits_same (line_at t k) (omega (arith, line-most t k))

  inputs-same : inputs_in u ≡ inputs_in t
  unfolding inputs_in
  inputs-same = ap (λ (w : ℕ). w / 2 ^ 56 % 2 ^ 8) (word_same 0 (omega arith))

  steps-same : steps_in u ≡ steps_in t
  unfolding steps_in
  steps-same = ap (λ (w : ℕ). w / 2 ^ 48 % 2 ^ 8) (word_same 0 (omega arith))

  header-same : (k : ℕ) → k < 65601 → header_in u k ≡ header_in t k
  header-same k h = ap mended_header (word_same k h)

  headers-same : headers_in u ≡ headers_in t
  unfolding headers_in
  headers-same =
      ap (λ (n : ℕ). table n (λ i. header_in u (1 + i))) inputs-same
      ∙ table_same (λ i. header_in u (1 + i)) (λ i. header_in t (1 + i)) (inputs_in t) (λ i l. header-same (1 + i) (omega (arith, inputs-small t)))

  count_same : count_in u ≡ count_in t
  unfolding count_in
  count_same = ap (λ (hs : List ℕ). total (input_heads hs)) headers-same

  lines_same : lines_in u ≡ lines_in t
  unfolding lines_in
  lines_same = rw (inputs-same, count_same, steps-same)

  within_same : is_within u ≡ is_within t
  unfolding is_within
  within_same = rw (headers-same, count_same)

  first-same : first_test u ≡ first_test t
  first-same = rw (lined-same 0 (omega arith), inputs-same, steps-same)

  right-same : (k : ℕ) → k < 65601 → header_right u k ≡ header_right t k
  right-same k h = rw (lined-same k h, header-same k h)

  headers_tested : headers_test u ≡ headers_test t
  headers_tested =
      ap (λ (n : ℕ). every (header_right u) n 1) inputs-same
      ∙ every-same (header_right u) (header_right t) (inputs_in t) 1 (λ q a b. right-same q (omega (arith, inputs-small t)))

  -- all lines, where the headers are right
  module _ (s : Sized t) (h : headers_test t ≡ true) where
    count-few : count_in t ≤ 4096 * inputs_in t
    unfolding count_in headers_in
    count-few =
        let ws : List ℕ = table (inputs_in t) (λ i. header_in t (1 + i)) in
        let g = heads-good t (inputs_in t) h in
        omega (
          arith,
          total-most (input_heads ws) (λ p. (g.at p).most),
          length-map ws header_of,
          length-table (λ i. header_in t (1 + i)) (inputs_in t),
        )

    lines-few : 1 + inputs_in t + (count_in t + steps_in t) ≤ 65601
    lines-few = omega (arith, count-few, s.few, s.fit)

    rest-same : rest_test u ≡ rest_test t
    rest-same =
        rw (count_same, steps-same, inputs-same)
        (every-same (old_lined u) (old_lined t) (count_in t + steps_in t) (1 + inputs_in t) (λ q a b. lined-same q (omega (arith, lines-few))))

  readable-same : is_readable u ≡ is_readable t
  unfolding is_readable
  readable-same =
      decide (first_test t)
      (λ a. decide (headers_test t)
      (λ b. rw (first-same, headers_tested, rest-same (sized t a) b))
      (λ b. rw (first-same, headers_tested, a, b)))
      (λ a. rw (first-same, a))

  -- what is printed of a line
  module _ (k : ℕ) (h : k < 65601) where
    new-same : new_word u (inputs_in u) (count_in u) k ≡ new_word t (inputs_in t) (count_in t) k
    unfolding new_word
    new-same = rw (inputs-same, count_same, word_same k h)

    digit-same : (j : ℕ) → j < 16 → old_digit u k j ≡ old_digit t k j
    digit-same j l =
        ap (λ (p : ℕ). byte_at u (p + j)) (place_same k (omega arith)) ∙ byte-same (line_at t k + j) (omega (arith, line-most t k))

    kept_same : is_kept u (inputs_in u) (count_in u) k ≡ is_kept t (inputs_in t) (count_in t) k
    unfolding is_kept
    kept_same =
        rw new-same
        (every-same (λ j. eqb (old_digit u k j) (hex_digit (new_word t (inputs_in t) (count_in t) k) j))
        (λ j. eqb (old_digit t k j) (hex_digit (new_word t (inputs_in t) (count_in t) k) j)) 16 0
        (λ j a b. ap (λ (x : ℕ). eqb x (hex_digit (new_word t (inputs_in t) (count_in t) k) j)) (digit-same j (omega arith))))

    line-text : change_line u (inputs_in u) (count_in u) k ≡ change_line t (inputs_in t) (count_in t) k
    unfolding change_line
    line-text =
        ap₂ (λ (a b : List ℕ). decimal (k + 1) ++ (space ++ (a ++ (space ++ b)))) (table_same (old_digit u k) (old_digit t k) 16 digit-same)
        (ap hex_line new-same)

    change-same : change_text u (inputs_in u) (count_in u) k ≡ change_text t (inputs_in t) (count_in t) k
    unfolding change_text
    change-same = rw (kept_same, line-text)

  module _ (o : Opened t) where
    few : (k : ℕ) → k < lines_in t → k < 65601
    unfolding lines_in
    few k l = omega (arith, lines-few o.sizes o.headers)

    report-same : report_text u ≡ report_text t
    unfolding report_text
    report-same =
        ap (joined (change_text u (inputs_in u) (count_in u))) lines_same
        ∙ joined_same (change_text u (inputs_in u) (count_in u)) (change_text t (inputs_in t) (count_in t)) (lines_in t) (λ k l. change-same k (few k l))

    sheet-same : mended_sheet u ≡ mended_sheet t
    unfolding mended_sheet
    sheet-same =
        ap (joined (new_line u (inputs_in u) (count_in u))) lines_same
        ∙ joined_same (new_line u (inputs_in u) (count_in u)) (new_line t (inputs_in t) (count_in t)) (lines_in t) (λ k l. ap hex_line (new-same k (few k l)))

  same_text : mended_text u ≡ mended_text t
  same_text =
      decide (is_readable t)
      (λ a. decide (is_within t)
      (λ b.
      mended u (readable-same ∙ a) (within_same ∙ b)
      ∙ (ap₂ (λ (x y : List ℕ). x ++ y) (report-same (opened t a)) (sheet-same (opened t a)) ∙ sym (mended t a b)))
      (λ b. refused_5 u (readable-same ∙ a) (within_same ∙ b) ∙ sym (refused_5 t a b)))
      (λ a. refused_8 u (readable-same ∙ a) ∙ sym (refused_8 t a))

pub mended-front : (t : List ℕ) → mended_text (take read_at_most t) ≡ mended_text t
mended-front t = same_text t (take read_at_most t) (λ p h. get_or-take read_at_most t p 0 h)
