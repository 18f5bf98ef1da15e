-- What is said of a wanted chance keeps to 80 columns.
use Rattle.std.specs.Prelude.{Some, None, ℕ, ◌-◌, ◌≤◌, ◌<◌, Bool, List, [], ◌++◌, ◌≡◌, leb, ltb, eqb, Float}
use Rattle.std.proofs.Common.{append_assoc, sym, ap, ◌∙◌, arith, ltb-true, leb-false}
use Rattle.std.proofs.Math.Path.{refl}
use Rattle.std.specs.Float.Ieee.{mul, binary64}
use Rattle.lists.specs.Bytes.{bytes}
use Rattle.lists.specs.Test.{decide}
use Rattle.model.specs.declared.Header.{Header}
use Rattle.model.specs.Header.{len}
use Rattle.model.specs.Gates.{good_total}
use Rattle.model.specs.Least.{least_of}
use Rattle.model_texts.specs.Trace.{decider}
use Rattle.model_texts.specs.Whole.{first_out, is_whole}
use Rattle.model_texts.specs.Report.{place_kind_text}
use Rattle.model_decimals.specs.Text.{float_text}
use Rattle.model_forecast.specs.Results.{Given}
use Rattle.model_forecast.specs.Covered.{covered_text, first_passing, cut_by_text, short_text, uncovered_text, cover_text, wanted_text, chance_text}
use Rattle.report_trace.specs.Small.{decider-small}
use Rattle.report_lines.specs.Columns.{in_columns, column_after, Piece, piece, piece_then, piece-either, number_piece, tell-two}
use Rattle.report_lines.specs.Columns.{newline-rest, rest_then, rest_broken}
use Rattle.report_lines.specs.Columns.{Lines, lines, written, lines-up, lines_none, lines_then, lines-either}
use Rattle.report_figures.specs.Number.{float_piece}

regroup : (a b c d : List ℕ) → a ++ (b ++ (c ++ d)) ≡ (a ++ (b ++ c)) ++ d
regroup a b c d = sym (append_assoc a (b ++ c) d ∙ ap (λ (l : List ℕ). a ++ l) (append_assoc b c d))

covered-lines : (k : ℕ) (q : Float) → Lines 200 (covered_text k q)
unfolding covered_text bytes
covered-lines k q =
    lines-up
    (lines (omega arith)
    (rest_then (number_piece k)
    (rest_then (piece-either (eqb k 1) (piece 25 (bytes " tube covers a chance of ") refl) (piece 25 (bytes " tubes cover a chance of ") refl))
    (rest_then (float_piece q) (rest_then (piece 1 (bytes ".") refl) newline-rest)))))
    (omega arith)

kind_piece : (inputs p : ℕ) → p < 64 → Piece 16 (place_kind_text inputs p)
unfolding place_kind_text bytes
kind_piece inputs p l =
    piece_then (tell-two "place " p (piece 6 (bytes "place ") refl) (omega arith))
    (piece-either (ltb p inputs) (piece 8 (bytes " (input)") refl) (piece 8 (bytes " (step)") refl))

module _ (known : List Header) (ss : List ℕ) (inputs : ℕ) (fs : List ℕ) where
  cut-lines : (o : ℕ) → o < 64 → Lines 120 (cut_by_text known ss inputs fs o)
  unfolding cut_by_text bytes
  cut-lines o l =
      let second = rest_then (piece 29 (bytes "a larger limit belongs there.") refl) newline-rest in
      lines-up
      (lines (omega arith)
      (rest_then (tell-two "The table was cut at place " o (piece 27 (bytes "The table was cut at place ") refl) (omega arith))
      (rest_then (piece 18 (bytes ", by the limit of ") refl)
      (rest_then (kind_piece inputs (decider known (first_passing known fs o) ss inputs o)
      (decider-small known (first_passing known fs o) ss inputs o l))
      (rest_broken {b = 59} refl (omega arith) second)))))
      (omega arith)

  short-lines : (p : ℕ) → Lines 120 (short_text known ss inputs fs p)
  unfolding short_text is_whole bytes in_columns column_after
  short-lines p =
      let q = first_out known ss inputs fs p in
      decide (leb 64 q)
      (λ t. rw t (written 120 (bytes "No limit left anything out: the answer itself does not reach it.\n") refl refl))
      (λ t. rw t (cut-lines q (leb-false 64 q t)))

  uncovered-lines : (p : ℕ) (q : Float) → Lines 200 (uncovered_text known ss inputs fs p q)
  unfolding uncovered_text bytes
  uncovered-lines p q =
      let front = lines (omega arith)
      (rest_then (piece 44 (bytes "No number of tubes shown covers a chance of ") refl)
      (rest_then (float_piece q) (rest_then (piece 1 (bytes ".") refl) newline-rest))) in
      lines-up {a = 197} (rw (regroup (bytes "No number of tubes shown covers a chance of ") (float_text q) (bytes ".\n") (short_text known ss inputs fs p))
      (lines_then front (short-lines p))) (omega arith)

  module _ (p : ℕ) (h : Header) (xs : List Float) (total : Float) where
    cover-lines : (q : Float) → Lines 200 (cover_text known ss inputs fs p h xs total q)
    unfolding cover_text
    cover-lines q =
        let k = least_of xs (len h 0) (mul binary64 q total) in
        lines-either (ltb k (len h 0)) (covered-lines k q) (uncovered-lines p q)

    wanted-lines : (q : Float) → Lines 200 (wanted_text known ss inputs fs p h xs total q)
    unfolding wanted_text bytes in_columns column_after
    wanted-lines q =
        lines-either (eqb h.vars 1)
        (lines-either (good_total total) (cover-lines q)
        (written 200 (bytes "With no total above zero, no number of tubes covers a chance.\n") refl refl))
        (written 200 (bytes "How many tubes cover a chance is told for an answer of one variable only.\n") refl refl)

    pub chance-lines : (g : Given) → Lines 200 (chance_text known ss inputs fs p h xs total g)
    unfolding chance_text
    chance-lines None = lines-up lines_none (omega arith)
    chance-lines (Some q) = wanted-lines q
