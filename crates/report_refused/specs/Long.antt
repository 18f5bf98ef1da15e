-- Whatever the sheet, what is said where it is refused keeps to 80 columns and is short.
use Prim.Native.Nat.{ℕ, ◌+◌, ◌-◌, ◌*◌, ◌≤◌, ◌<◌}
use Rattle.std.specs.Prelude.{true, ◌||◌, List, [], ◌∷◌, ◌++◌, ◌≡◌, leb, ltb, eqb, length, take}
use Rattle.std.proofs.Math.Path.{refl}
use Rattle.std.proofs.Common.{sym, ap, ◌∙◌}
use native.Mathlib.Omega.{arith}
use Rattle.std.proofs.Math.ListN.{length-append, length-map}
use borrow.Author.Tests.{leb-true, ltb-true, ltb-false, eqb-true, eqb-false, ne_eqb}
use Rattle.lists.specs.Bytes.{bytes}
use Rattle.lists.specs.Chain.{length-chain}
use Rattle.lists.specs.Test.{decide, and_left}
use Rattle.model.specs.declared.Refusal.{Refusal}
use Rattle.model.specs.Refusals.{is_none}
use Rattle.model.specs.Word.{header_of}
use Rattle.model_recipes.specs.Recipe.{recipe_of, announced_step, input_heads, announced_places, total}
use Rattle.model_texts.specs.Cause.{cause_text}
use Rattle.model_texts.specs.Hex.{is_digit, byte_at}
use Rattle.model_texts.specs.Printed.{refused_word, space, decimal, refused_text}
use Rattle.model_texts.specs.Sheet.{lined, input_count, step_count, rest_count, coefficient_count, sheet_headers, sheet_edition, sheet_steps, sheet_recipe}
use Rattle.model_texts.specs.Sheet.{read_refusal, sheet_refusal}
use Rattle.model_texts.specs.Trace.{step_word}
use Rattle.model_faults.specs.Saying.{first_not}
use Rattle.model_faults.specs.Broken.{is_capital, is_blank, is_shown, byte_text, no_digit_text, no_newline_text, short_text, byte_fault, asked_text, ended_text}
use Rattle.model_faults.specs.Broken.{head_lines, least_lines, all_lines, digits_on, line_cause, line_fault, rest_fault, broken_text}
use Rattle.model_faults.specs.WordOne.{sizes_fault}
use Rattle.model_faults.specs.Own.{line_of}
use Rattle.model_faults.specs.Fault.{read_fault, place_fault, recipe_fault, fault_text, fault_report}
use Rattle.gates.specs.Small.{Small}
use Rattle.recipes_check.specs.Judged.{chain-known}
use Rattle.recipes_kinds.specs.Known.{Known}
use Rattle.sheet_limits.specs.Limits.{inputs-first}
use Rattle.sheet_reading.specs.Headers.{good-known}
use Rattle.sheet_reading.specs.Reading.{edition-small, count_small, step_small}
use Rattle.sheet_solving.specs.Opened.{Opened, opened, opened-good, opened-few, headers-many, steps-many}
use Rattle.report_lines.specs.Columns.{in_columns, columns_append, columns-earlier, Piece, piece, piece_up, piece_then, piece-either, two_digits}
use Rattle.report_lines.specs.Columns.{Lines, lines, lines-up, newline-rest, rest_then}
use Rattle.report_say.specs.First.{first_not_lem}
use Rattle.report_header.specs.Causes.{cause-columns, cause-length}
use Rattle.report_broken.specs.Headers.{lines-most}
use Rattle.report_broken.specs.Wrong.{digits-most, broken_open}
use Rattle.report_refused.specs.Fits.{Fits, fits-up, fits-none, fits-text, fits_then, fits-either, fits-say}
use Rattle.report_refused.specs.Sentences.{three, five, where_piece, step_fits, word-one-fits, own-fits}
use Rattle.report_refused.specs.Said.{read_is}
use Rattle.report_refused.specs.Small.{refusal-small}

-- ---- a byte that is wrong, behind c right ones

one_byte : (b : ℕ) → (b ≡ 10 → ⊥) → Piece 1 (b ∷ [])
one_byte b h = record { most = omega arith; plain = rw (ne_eqb b 10 h) refl }

name_piece : (b : ℕ) → Piece 18 (byte_text b)
unfolding byte_text bytes
name_piece b =
    decide (is_shown b)
    (λ t.
    let l : 33 ≤ b = leb-true 33 b (and_left (leb 33 b) (leb b 126) t) in
    rw t
    (piece_up
    (piece_then (piece 1 (bytes "'") refl) (piece_then (one_byte b (λ e. omega (arith, e))) (piece 1 (bytes "'") refl)))
    (omega arith)))
    (λ t. rw t (piece 18 (bytes "an unreadable byte") refl))

module _ (c : ℕ) (l : c ≤ 16) where
  column : Piece 2 (decimal (c + 1))
  column = two_digits (c + 1) (omega arith)

  no-digit-fits : (b : ℕ) → Fits 66 67 (no_digit_text b c)
  unfolding no_digit_text bytes in_columns
  no-digit-fits b =
      fits-either (is_capital b)
      (fits-up
      (fits-say "a capital letter in column " (c + 1) "; write a to f.\n" (piece 27 (bytes "a capital letter in column ") refl) column
      (fits-text 15 16 (bytes "; write a to f.\n") refl)) (omega arith) (omega arith))
      (fits_then (name_piece b)
      (fits-say " in column " (c + 1) " is no digit; write 0 to 9, a to f.\n" (piece 11 (bytes " in column ") refl) column
      (fits-text 35 36 (bytes " is no digit; write 0 to 9, a to f.\n") refl)))

  no_newline-fits : (b : ℕ) → Fits 66 67 (no_newline_text b)
  unfolding no_newline_text bytes in_columns
  no_newline-fits b =
      fits-either (is_digit b || is_capital b) (fits-text 66 67 (bytes "too long, more than 16 digits; write 16 and a newline.\n") refl)
      (fits-up (fits_then (name_piece b) (fits-text 45 46 (bytes " in column 17; write 16 digits and a newline.\n") refl)) (omega arith) (omega arith))

  short-fits : Fits 66 67 (short_text c)
  unfolding short_text bytes in_columns
  short-fits =
      fits-either (eqb c 0) (fits-text 66 67 (bytes "an empty line; each line has 16 digits.\n") refl)
      (fits-up
      (fits-say "too short, only " c " of 16 digits; write all.\n" (piece 16 (bytes "too short, only ") refl) (two_digits c (omega arith))
      (fits-text 25 26 (bytes " of 16 digits; write all.\n") refl)) (omega arith) (omega arith))

  byte_fits : (b : ℕ) → Fits 66 67 (byte_fault b c)
  unfolding byte_fault bytes in_columns
  byte_fits b =
      fits-either (eqb b 10) short-fits
      (fits-either (eqb b 13)
      (fits-up
      (fits-say "a carriage return in column " (c + 1) "; end lines with a newline alone.\n" (piece 28 (bytes "a carriage return in column ") refl)
      column (fits-text 33 34 (bytes "; end lines with a newline alone.\n") refl)) (omega arith) (omega arith))
      (fits-either (is_blank b)
      (fits-up
      (fits-say "a blank in column " (c + 1) "; write no spaces and no tabs.\n" (piece 18 (bytes "a blank in column ") refl) column
      (fits-text 30 31 (bytes "; write no spaces and no tabs.\n") refl)) (omega arith) (omega arith))
      (fits-either (ltb c 16) (no-digit-fits b) (no_newline-fits b))))

  -- ---- the text ends behind them, in the line k

  ended_piece : (k : ℕ) → Piece 36 (ended_text k c)
  unfolding ended_text bytes
  ended_piece k =
      piece-either (eqb c 0)
      (piece-either (eqb k 0) (piece 36 (bytes "the sheet is empty") refl) (piece 36 (bytes "the sheet ends before it") refl))
      (piece-either (ltb c 16)
      (piece_then (piece_then (piece 21 (bytes "the sheet ends after ") refl) (two_digits c (omega arith))) (piece 13 (bytes " of 16 digits") refl))
      (piece 36 (bytes "the sheet ends without its newline") refl))

asked-fits : (h k n : ℕ) → (k < h → n < 1000) → n < 100000 → Fits 31 32 (asked_text h k n)
unfolding asked_text bytes in_columns
asked-fits h k n a b =
    fits-either (eqb k 0) (fits-text 31 32 (bytes ".\n") refl)
    (decide (ltb k h)
    (λ t.
    rw t
    (fits-say "; " n " lines or more are needed.\n" (piece 2 (bytes "; ") refl) (three n (a (ltb-true k h t)))
    (fits-text 26 27 (bytes " lines or more are needed.\n") refl)))
    (λ t.
    rw t
    (fits-up (fits-say "; " n " lines are needed.\n" (piece 2 (bytes "; ") refl) (five n b) (fits-text 18 19 (bytes " lines are needed.\n") refl))
    (omega arith) (omega arith))))

-- ---- t: the bytes of a sheet

module _ (t : List ℕ) where
  cause-fits : (k n : ℕ) → (k < head_lines t → n < 1000) → n < 100000 → Fits 67 68 (line_cause t k n)
  unfolding line_cause
  cause-fits k n a b =
      let c : ℕ = digits_on t k in
      let l : c ≤ 16 = digits-most t k in
      fits-either (leb (length t) (17 * k + c)) (fits_then (ended_piece c l k) (asked-fits (head_lines t) k n a b))
      (fits-up (byte_fits c l (byte_at t (17 * k + c))) (omega arith) (omega arith))

  line-fits : (k n : ℕ) → k < 65601 → (k < head_lines t → n < 1000) → n < 100000 → Fits 79 80 (line_fault t k n)
  unfolding line_fault bytes
  line-fits k n h a b =
      fits_then (piece_then (piece 5 (bytes "line ") refl) (five (k + 1) (omega arith))) (fits_then (piece 2 (bytes ": ") refl) (cause-fits k n a b))

  rest-fits : Opened t → Fits 79 80 (rest_fault t)
  unfolding rest_fault bytes in_columns
  rest-fits o =
      let n : ℕ = all_lines t in
      let k : ℕ = first_not (lined t) (rest_count t) (head_lines t) in
      let f = first_not_lem (lined t) (rest_count t) (head_lines t) in
      let m : n ≤ 65601 = lines-most o in
      decide (ltb k n)
      (λ b. rw b (line-fits k n (omega (arith, ltb-true k n b)) (λ l. absurd (omega (arith, f.from))) (omega arith)))
      (λ b.
      rw b
      (fits-up
      (fits_then (piece_then (piece 5 (bytes "line ") refl) (five (k + 1) (omega (arith, f.most))))
      (fits-say ": the sheet goes on; " n " lines are needed.\n" (piece 21 (bytes ": the sheet goes on; ") refl) (five n (omega arith))
      (fits-text 18 19 (bytes " lines are needed.\n") refl)))
      (omega arith) (omega arith)))

  broken-fits : (read_refusal t).number ≡ 8 → Fits 79 80 (broken_text t)
  unfolding broken_text
  broken-fits e =
      let f : ℕ = head_lines t in
      let k : ℕ = first_not (lined t) f 0 in
      let i = count_small t in
      let s = step_small t in
      decide (ltb k f)
      (λ b. rw b (line-fits k (least_lines t) (omega (arith, ltb-true k f b)) (λ l. omega arith) (omega arith)))
      (λ b. rw b (rest-fits (broken_open t refl refl e (ltb-false k f b))))

  -- ---- refused while it is read

  header-fits : (v c : ℕ) → Fits 52 110 (cause_text v c)
  header-fits v c = record { most = cause-length v c; keeps = λ d l. columns-earlier (cause_text v c) d 28 (omega arith) (cause-columns v c) }

  read_fits : (r : Refusal) → Small 12 512 r → r ≡ read_refusal t → Fits 80 140 (read_fault t r)
  unfolding read_fault sizes_fault bytes
  read_fits r s e =
      decide (eqb r.number 8)
      (λ b. rw b (fits-up (broken-fits (ap (λ (x : Refusal). x.number) (sym e) ∙ eqb-true _ _ b)) (omega arith) (omega arith)))
      (λ b.
      rw b
      (fits-either (eqb r.number 7)
      (fits-up (fits_then (piece 8 (bytes "line 1: ") refl)
      (word-one-fits (sheet_edition t) (input_count t) (step_count t) _ (edition-small t) (count_small t) (step_small t)))
      (omega arith) (omega arith))
      (fits-up
      (fits_then (where_piece (2 + r.place) (input_count t) r.place (three (2 + r.place) (omega (arith, s.place)))
      (three r.place (omega (arith, s.place)))) (header-fits r.variable r.cause))
      (omega arith) (omega arith))))

  -- ---- refused once it is read

  module _ (o : Opened t) where
    places-known : (ss : List ℕ) → Known (announced_places (recipe_of (sheet_edition t) (sheet_headers t) ss))
    unfolding announced_places
    places-known ss = chain-known (sheet_edition t) (good-known (opened-good o)) ss

    count-few : coefficient_count t ≤ 65536
    count-few = omega (arith, opened-few o, o.sizes.few)

    place-fits : (p n : ℕ) → p < 64 → Fits 80 163 (place_fault t p n)
    unfolding place_fault line_of sheet_recipe
    place-fits p n l =
        let k = input_count t in
        let line = line_of k (coefficient_count t) p in
        let m : line < 100000 = decide (ltb p k) (λ b. rw b (omega arith)) (λ b. rw b (omega (arith, count-few))) in
        fits_then (where_piece line k p (five line m) (two_digits p (omega arith)))
        (step_fits (step_word (sheet_steps t) k p) (places-known (take (p - k) (sheet_steps t))) n p)

    places-few : length (announced_places (sheet_recipe t)) ≤ 64
    unfolding announced_places sheet_recipe
    places-few =
        omega (
          arith,
          length-chain (announced_step (sheet_edition t)) (input_heads (sheet_headers t)) (sheet_steps t),
          length-map (sheet_headers t) header_of,
          headers-many t,
          steps-many t,
          o.sizes.fit,
        )

    inputs-few : total (take (input_count t) (announced_places (sheet_recipe t))) ≤ 65536
    unfolding coefficient_count sheet_recipe
    inputs-few = rw (← headers-many t, inputs-first (recipe_of (sheet_edition t) (sheet_headers t) (sheet_steps t))) count-few

    recipe-fits : (r : Refusal) → Fits 80 163 (recipe_fault t r)
    unfolding recipe_fault sheet_recipe
    recipe-fits r =
        decide (ltb r.place 64)
        (λ b. rw b (place-fits r.place r.number (ltb-true r.place 64 b)))
        (λ b.
        rw b
        (fits-up (own-fits (announced_places (sheet_recipe t)) (input_count t) (places-known (sheet_steps t)) places-few inputs-few)
        (omega arith) (omega arith)))

  -- ---- the sentence

  text-fits : Fits 80 163 (fault_text t)
  unfolding fault_text
  text-fits =
      let r = sheet_refusal t in
      decide (is_none r)
      (λ a. rw a fits-none)
      (λ a.
      decide (is_none (read_refusal t))
      (λ b. rw (a, b) (fits-up (recipe-fits (opened t (eqb-true _ _ b)) r) (omega arith) (omega arith)))
      (λ b.
      rw (a, b) (fits-up (read_fits r (refusal-small t) (read_is t (eqb-false (read_refusal t).number 0 b))) (omega arith) (omega arith))))

  -- ---- with the line that `recipe` prints

  refused-lines : (r : Refusal) → Small 12 512 r → Lines 50 (refused_text r)
  unfolding refused_text
  refused-lines r s =
      lines-up
      (lines (omega arith)
      (rest_then (piece 8 refused_word refl) (rest_then (three r.number (omega (arith, s.number)))
      (rest_then (piece 1 space refl) (rest_then (three r.place (omega (arith, s.place)))
      (rest_then (piece 1 space refl) (rest_then (three r.variable (omega (arith, s.variable)))
      (rest_then (piece 1 space refl) (rest_then (three r.cause (omega (arith, s.cause))) newline-rest)))))))))
      (omega arith)

  pub fault-length : length (fault_report t) ≤ 213
  unfolding fault_report
  fault-length =
      omega (
        arith,
        length-append (refused_text (sheet_refusal t)) (fault_text t),
        (refused-lines (sheet_refusal t) (refusal-small t)).most,
        text-fits.most,
      )

  pub fault-columns : in_columns 0 (fault_report t) ≡ true
  unfolding fault_report
  fault-columns =
      let p = refused-lines (sheet_refusal t) (refusal-small t) in
      columns_append 0 (refused_text (sheet_refusal t)) (fault_text t) p.keeps (rw p.ends (text-fits.keeps 0 (omega arith)))
