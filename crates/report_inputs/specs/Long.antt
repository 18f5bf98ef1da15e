-- What is said of the inputs keeps to 80 columns and is under 9,000 bytes long, for 16 inputs.
use Prim.Native.Nat.{ℕ, zero, suc, ◌+◌, ◌-◌, ◌≤◌, ◌<◌, min}
use Rattle.std.specs.Prelude.{List, [], ◌∷◌, ◌++◌, ◌≡◌, refl, ltb, eqb, Float, length, get_or}
use Rattle.std.proofs.Common.{append_assoc, sym, ap, ◌∙◌, arith}
use Rattle.std.specs.Float.{nan}
use Rattle.lists.specs.Bytes.{bytes}
use Rattle.model.specs.declared.Header.{Header}
use Rattle.model.specs.Header.{stored}
use Rattle.model.specs.Readings.{sum_to}
use Rattle.model_texts.specs.Report.{tell, joined}
use Rattle.model_decimals.specs.Text.{float_text}
use Rattle.model_figures.specs.Cells.{cell}
use Rattle.model_figures.specs.Inputs.{fills_some, fill_text, first_text, firsts_text, input_lines, input_header, input_coefficients, input_text, inputs_text}
use Rattle.report_lines.specs.Columns.{in_columns, column_after, Piece, piece, tell-two}
use Rattle.report_lines.specs.Columns.{Rest, newline-rest, rest_up, rest_then, rest-either, rest-shift}
use Rattle.report_lines.specs.Columns.{Lines, lines, written, lines-up, lines_then, lines_if, lines-joined}
use Rattle.report_figures.specs.Number.{float_piece}
use Rattle.report_figures.specs.Long.{cell-rest}

fill-rest : (h : Header) → Rest 17 18 (fill_text h)
unfolding fill_text bytes
fill-rest h =
    rest-either (eqb h.vars 0) (rest_up (rest_then (piece 12 (bytes ", a constant") refl) newline-rest) (omega arith) (omega arith))
    (rest-either (fills_some h) (rest_then (piece 17 (bytes ", fills its limit") refl) newline-rest)
    (rest_then (piece 17 (bytes ", below its limit") refl) newline-rest))

-- up to four coefficients
module _ (xs : List Float) where
  number : (k : ℕ) → Piece 31 (float_text (get_or xs k nan))
  number k = float_piece (get_or xs k nan)

  -- the last, at the column 2 + 15 * k
  last_rest : (k : ℕ) → Rest 31 32 (float_text (get_or xs k nan) ++ (10 ∷ []))
  last_rest k = rest_then (number k) newline-rest

  two-rest : (c k : ℕ) → c ≤ 34 → Rest (80 - c) 144 (cell c 15 (float_text (get_or xs k nan)) ++ (float_text (get_or xs (suc k) nan) ++ (10 ∷ [])))
  two-rest c k h =
      let last : Rest (80 - (c + 15)) 32 (float_text (get_or xs (suc k) nan) ++ (10 ∷ [])) = rest_up (last_rest (suc k)) (omega arith) (omega arith) in
      cell-rest c 15 (number k) (omega arith) (omega arith) last

  -- number k at the column c, and what follows it
  at : ℕ → ℕ → List ℕ
  at c k = cell c 15 (float_text (get_or xs k nan))

  end : ℕ → List ℕ
  end k = float_text (get_or xs k nan)

  firsts-rest : (m : ℕ) → m ≤ 4 → Rest 80 400 (firsts_text xs m)
  unfolding firsts_text first_text joined bytes at end
  firsts-rest zero a = rest_up (rest_then (piece 2 (bytes "  ") refl) newline-rest) (omega arith) (omega arith)
  firsts-rest (suc zero) a = rest_up (rest_then (piece 2 (bytes "  ") refl) (last_rest 0)) (omega arith) (omega arith)
  firsts-rest (suc (suc zero)) a =
      rest_up (rest_then (piece 2 (bytes "  ") refl) (rest-shift (at 2 0) (end 1) (10 ∷ []) (two-rest 2 0 (omega arith)))) (omega arith) (omega arith)
  firsts-rest (suc (suc (suc zero))) a =
      rest_up (rest_then (piece 2 (bytes "  ") refl)
      (rest-shift (at 2 0 ++ at 17 1) (end 2) (10 ∷ [])
      (rest-shift (at 2 0) (at 17 1) (end 2 ++ (10 ∷ []))
      (cell-rest 2 15 (number 0) (omega arith) (omega arith) (two-rest 17 1 (omega arith)))))) (omega arith) (omega arith)
  firsts-rest (suc (suc (suc (suc zero)))) a =
      rest_up (rest_then (piece 2 (bytes "  ") refl)
      (rest-shift ((at 2 0 ++ at 17 1) ++ at 32 2) (end 3) (10 ∷ [])
      (rest-shift (at 2 0 ++ at 17 1) (at 32 2) (end 3 ++ (10 ∷ []))
      (rest-shift (at 2 0) (at 17 1) (at 32 2 ++ (end 3 ++ (10 ∷ [])))
      (cell-rest 2 15 (number 0) (omega arith) (omega arith)
      (cell-rest 17 15 (number 1) (omega arith) (omega arith) (two-rest 32 2 (omega arith)))))))) (omega arith) (omega arith)
  firsts-rest (suc (suc (suc (suc (suc m))))) a = absurd (omega arith)

input_lines_lem : (i : ℕ) (h : Header) (xs : List Float) → i < 100 → Lines 480 (input_lines i h xs)
unfolding input_lines bytes
input_lines_lem i h xs l =
    let f = lines (omega arith) (firsts-rest xs (min 4 (stored h)) (omega arith)) in
    let front = rest_then (tell-two "place " i (piece 6 (bytes "place ") refl) l) (rest_then (piece 6 (bytes ": sum ") refl)
    (rest_then (float_piece (sum_to xs (stored h))) (fill-rest h))) in
    lines-up {a = 463} (rw (regroup (tell "place " i) (bytes ": sum ") (float_text (sum_to xs (stored h))) (fill_text h) (firsts_text xs (min 4 (stored h))))
    (lines_then (lines (omega arith) front) f)) (omega arith)
  where
    regroup : (a b c d e : List ℕ) → a ++ (b ++ (c ++ (d ++ e))) ≡ (a ++ (b ++ (c ++ d))) ++ e
    regroup a b c d e =
        let f = append_assoc b (c ++ d) e ∙ ap (λ (l : List ℕ). b ++ l) (append_assoc c d e) in
        sym (append_assoc a (b ++ (c ++ d)) e ∙ ap (λ (l : List ℕ). a ++ l) f)

pub inputs-lines : (hs : List ℕ) (cs : List Float) → length hs ≤ 16 → Lines 8000 (inputs_text hs cs)
unfolding inputs_text input_text bytes in_columns column_after
inputs-lines hs cs f =
    lines-up (lines_then (lines_if (ltb 0 (length hs)) (written 80 (bytes "What was put in: of each input its sum, and its first coefficients.\n") refl refl))
    (lines-joined (input_text hs cs) 480 (length hs) (λ i l. input_lines_lem i (input_header hs cs i) (input_coefficients hs cs i) (omega
    arith)))) (omega arith)
