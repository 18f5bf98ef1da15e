-- The figures keep to 80 columns and are under 95,000 bytes long, for 256 places.
use Prim.Native.Nat.{ℕ, ◌+◌, ◌-◌, ◌≤◌, ◌<◌}
use Rattle.std.specs.Prelude.{Bool, ltb, eqb, Float, length, get_or}
use mathlib.Core.List.{List, [], ◌∷◌, ◌++◌}
use Rattle.std.proofs.Math.Path.{refl}
use Rattle.std.proofs.Common.{arith, ltb-true, ltb-false}
use Rattle.std.specs.Float.{nan}
use Rattle.lists.specs.Bytes.{bytes}
use Rattle.lists.specs.Four.{at, each}
use Rattle.lists.specs.Test.{decide}
use Rattle.model.specs.declared.Header.{Header}
use Rattle.model.specs.Header.{len, stored}
use Rattle.model.specs.Places.{index}
use Rattle.model.specs.Readings.{sum_to}
use Rattle.model.specs.Tail.{tail_of}
use Rattle.model_decimals.specs.Text.{float_text}
use Rattle.model_figures.specs.Cells.{blanks, gap, cell}
use Rattle.model_figures.specs.Figures.{part_text, index_text, heading_text, sums_text, sum_line, plain_line, figure_text, figures_text}
use Rattle.shape_words.specs.Lengths.{Lengths, Inside}
use Rattle.shape_words.specs.Places.{index-inside}
use Rattle.report_lines.specs.Columns.{in_columns, column_after, Piece, piece, piece_up, piece_then}
use Rattle.report_lines.specs.Columns.{piece_if, piece-joined, piece-table, two_digits, newline-rest}
use Rattle.report_lines.specs.Columns.{rest_up, rest_then, rest-either, rest-shift, Rest, Lines, lines, written, lines-up}
use Rattle.report_lines.specs.Columns.{lines_then, lines-either, lines-joined}
use Rattle.report_figures.specs.Fill.{gap-short, gap-wide}
use Rattle.report_figures.specs.Number.{float_piece}

-- a newline, and another line
rest_below : {k n : ℕ} {t : List ℕ} → k ≤ 80 → Rest k n t → Rest 0 (n + 1) (10 ∷ t)
unfolding in_columns column_after
rest_below l r = record { most = omega (arith, r.most); keeps = λ c h. r.keeps 0 (omega arith); ends = λ c. r.ends 0 }

blank_piece : (n : ℕ) → Piece n (blanks n)
blank_piece n = piece-table (λ k. 32) n (λ k e. omega (arith, e))

-- A cell at the column c, n wide, and the rest of its line, which stands at the column c + n: of the same line where
-- the text is short, else of the next one.
pub cell-rest : (c n : ℕ) {m : ℕ} {t r : List ℕ} → Piece 31 t → c + 31 ≤ 80 → c + n ≤ 80 → Rest (80 - (c + n)) m r → Rest (80 - c) (112 + m) (cell c n t ++ r)
unfolding cell bytes
cell-rest c n {m} {t} {r} p a b q =
    rest-shift t (gap c n (length t)) r
    (decide (ltb (length t) n)
    (λ y.
    let l = ltb-true (length t) n y in
    let s : Piece (length t) t = record { most = omega arith; plain = p.plain } in
    rw (gap-short c n (length t) l)
    (rest_up (rest_then s (rest_then (blank_piece (n - length t)) q)) (omega arith) (omega arith)))
    (λ y.
    rw (gap-wide c n (length t) (ltb-false (length t) n y))
    (rest_up
    (rest_then p (rest_below {k = 80} {n = c + n + m} (omega arith) (rest_up (rest_then (blank_piece (c + n)) q) (omega arith) (omega arith))))
    (omega arith) (omega arith))))

module _ (h : Header) (xs : List Float) (total : Float) (parts : Bool) (g : Lengths h.lengths) where
  module _ (p : ℕ) (l : p < stored h) where
    part_small : (v : ℕ) → v < 4 → at (index h.lengths p) v < 100
    part_small =
        let i : Inside h.lengths (index h.lengths p) = index-inside h.lengths p g l in
        each (λ v. at (index h.lengths p) v < 100) (omega (arith, i.i0, g.m0)) (omega (arith, i.i1, g.m1))
        (omega (arith, i.i2, g.m2)) (omega (arith, i.i3, g.m3))

    part_piece : (v : ℕ) → v < 4 → Piece 3 (part_text h.vars (index h.lengths p) v)
    unfolding part_text bytes
    part_piece v k =
        piece_if (ltb v h.vars) (piece_then (piece_if (ltb 0 v) (piece 1 (bytes " ") refl))
        (two_digits (at (index h.lengths p) v) (part_small v k)))

    index_piece : Piece 31 (index_text h p)
    unfolding index_text bytes
    index_piece =
        piece_up (piece_then (piece 1 (bytes "[") refl) (piece_then
        (piece-joined (part_text h.vars (index h.lengths p)) 3 4 part_piece) (piece 1 (bytes "]") refl))) (omega arith)

    sums-rest : Rest 51 144 (sums_text h xs total parts p ++ (10 ∷ []))
    unfolding sums_text
    sums-rest =
        let last = rest_then (float_piece (tail_of xs (len h 0) p total)) newline-rest in
        let sum = float_piece (sum_to xs (p + 1)) in
        let tail : List ℕ = float_text (tail_of xs (len h 0) p total) in
        decide parts
        (λ y. rw y (rest-shift (cell 29 20 (float_text (sum_to xs (p + 1)))) tail (10 ∷ []) (cell-rest 29 20 sum (omega arith) (omega arith) last)))
        (λ y. rw y (rest_up (rest_then sum newline-rest) (omega arith) (omega arith)))

    sum-rest : Rest 80 368 (sum_line h xs total parts p)
    unfolding sum_line bytes
    sum-rest = cell-rest 0 9 index_piece (omega arith) (omega arith) (cell-rest 9 20 (float_piece (get_or xs p nan)) (omega arith) (omega arith) sums-rest)

    plain-rest : Rest 80 368 (plain_line h xs p)
    unfolding plain_line bytes
    plain-rest =
        let last : Rest 65 32 (float_text (get_or xs p nan) ++ (10 ∷ [])) =
        rest_up (rest_then (float_piece (get_or xs p nan)) newline-rest) (omega arith) (omega arith) in
        rest_up (cell-rest 0 15 index_piece (omega arith) (omega arith) last) (omega arith) (omega arith)

    line-lines : Lines 368 (figure_text h xs total parts p)
    unfolding figure_text
    line-lines = lines (omega arith) (rest-either (eqb h.vars 1) sum-rest plain-rest)

  heading-lines : Lines 80 (heading_text h.vars parts)
  unfolding heading_text bytes in_columns column_after
  heading-lines = lines-either (eqb h.vars 1) (lines-either parts (written 80 _ refl refl) (written 80 _ refl refl)) (written 80 _ refl refl)

  pub figures-lines : stored h ≤ 256 → Lines 95000 (figures_text h xs total parts)
  unfolding figures_text
  figures-lines f = lines-up (lines_then heading-lines (lines-joined (figure_text h xs total parts) 368 (stored h) line-lines)) (omega arith)
