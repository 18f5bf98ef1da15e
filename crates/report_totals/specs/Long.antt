-- What is said behind the verdict keeps to 80 columns, and is under 96,000 bytes long.
use Rattle.std.specs.Prelude.{Some, None, ℕ, ◌+◌, ◌-◌, ◌≤◌, ◌<◌, Bool, true, false, List, [], ◌∷◌, ◌++◌, ◌≡◌, refl, leb, ltb, eqb, Float, length}
use Rattle.std.proofs.Common.{arith, ltb-true, leb-false}
use Rattle.std.specs.Float.Ieee.{sub}
use Rattle.std.specs.Float.{binary64}
use Rattle.lists.specs.Bytes.{bytes}
use Rattle.lists.specs.Test.{decide}
use Rattle.model.specs.declared.Header.{Header}
use Rattle.model.specs.Header.{stored}
use Rattle.model.specs.Word.{header_of}
use Rattle.model.specs.Gates.{good_total}
use Rattle.model_texts.specs.Report.{when, kind_names, kind_text}
use Rattle.model_forecast.specs.declared.Asked.{Asked}
use Rattle.model_forecast.specs.Results.{Given}
use Rattle.model_forecast.specs.declared.Sums.{Sums}
use Rattle.model_forecast.specs.Totals.{last_place}
use Rattle.model_forecast.specs.Mixed.{first_mixed, mixed_text}
use Rattle.model_forecast.specs.Shares.{used_total, origin_text, lost_text, shares_text, no_parts_text, total_text, bar_text, totals_text}
use Rattle.model_forecast.specs.Reckoned.{sums_of, parts_text, reckoned_text}
use Rattle.report_lines.specs.Columns.{Piece, piece, piece-either, piece-named, tell-two}
use Rattle.report_lines.specs.Columns.{Rest, newline-rest, rest_up, rest_then, rest-either, rest_broken}
use Rattle.report_lines.specs.Columns.{Lines, lines, lines-up, lines_none, lines_then, lines-either}
use Rattle.report_cover.specs.Long.{chance-lines}
use Rattle.report_figures.specs.Lines.{word-lengths}
use Rattle.report_figures.specs.Number.{float_piece}
use Rattle.report_figures.specs.Long.{figures-lines}

-- ---- the total

origin_piece : (given : Bool) → Piece 26 (origin_text given)
unfolding origin_text bytes
origin_piece given = piece-either given (piece 26 (bytes "as given") refl) (piece 26 (bytes "taking each input as whole") refl)

lost-rest : (given whole : Bool) (x : Float) → Rest 52 53 (lost_text given whole x)
unfolding lost_text bytes
lost-rest given whole x =
    rest-either given
    (rest_up (rest_then (float_piece x) (rest_then (piece 9 (bytes " are not.") refl) newline-rest)) (omega arith) (omega arith))
    (rest-either whole
    (rest_up (rest_then (piece 29 (bytes "nothing lies past the limits.") refl) newline-rest) (omega arith) (omega arith))
    (rest_up (rest_then (float_piece x) (rest_then (piece 21 (bytes " lie past the limits.") refl) newline-rest)) (omega arith) (omega arith)))

shares-lines : (given whole : Bool) (total shown : Float) → Lines 200 (shares_text given whole total shown)
unfolding shares_text bytes
shares-lines given whole total shown =
    let third = rest_then (piece 2 (bytes "  ") refl) (lost-rest given whole (sub binary64 total shown)) in
    let second = rest_then (piece 2 (bytes "  ") refl) (rest_then (float_piece shown) (rest_then (piece 15 (bytes " are shown here") refl)
    (rest_broken {b = 59} refl (omega arith) third))) in
    lines-up
    (lines (omega arith)
    (rest_then (piece 3 (bytes "Of ") refl) (rest_then (float_piece total) (rest_then (piece 9 (bytes " in all, ") refl)
    (rest_then (origin_piece given) (rest_broken {b = 44} refl (omega arith) second))))))
    (omega arith)

no-parts-lines : (given : Bool) (total : Float) → Lines 200 (no_parts_text given total)
unfolding no_parts_text bytes
no-parts-lines given total =
    let second = rest_then (piece 64 (bytes "  not a finite number above zero, so that no part of it is told.") refl) newline-rest in
    lines-up
    (lines (omega arith)
    (rest_then (piece 11 (bytes "The total, ") refl) (rest_then (origin_piece given) (rest_then (piece 5 (bytes ", is ") refl)
    (rest_then (float_piece total) (rest_broken {b = 58} refl (omega arith) second))))))
    (omega arith)

total-lines : (given whole : Bool) (total shown : Float) → Lines 200 (total_text given whole total shown)
unfolding total_text
total-lines given whole total shown = lines-either (good_total total) (shares-lines given whole total shown) (no-parts-lines given total)

kind_piece : (k : ℕ) → Piece 25 (kind_text k)
unfolding kind_text kind_names bytes
kind_piece k = piece-named 25 kind_names k refl

one-rest : (b : Bool) → Rest 1 36 (bytes ".\n" ++ when b (bytes "Parts are taken of a total of 1.\n"))
unfolding bytes
one-rest true =
    rest_up (rest_broken {b = 46} refl (omega arith) (rest_then (piece 32 (bytes "Parts are taken of a total of 1.") refl) newline-rest))
    (omega arith) (omega arith)
one-rest false = rest_up (rest_then (piece 1 (bytes ".") refl) newline-rest) (omega arith) (omega arith)

bar-lines : (vars p k : ℕ) → p < 64 → Lines 200 (bar_text vars p k)
unfolding bar_text bytes
bar-lines vars p k l =
    let front = tell-two "No total follows from the inputs: place " p (piece 40 (bytes "No total follows from the inputs: place ") refl) (omega arith) in
    lines-up
    (lines (omega arith) (rest_then front (rest_then (piece 12 (bytes " is of kind ") refl) (rest_then (kind_piece k) (one-rest (eqb vars 1))))))
    (omega arith)

totals-lines : (g : Given) (s : Sums) → Lines 200 (totals_text g s)
unfolding totals_text
totals-lines (Some t) s = total-lines true s.whole t s.shown
totals-lines None s =
    decide (leb 64 s.bar)
    (λ b. rw b (total-lines false s.whole s.amount s.shown))
    (λ b. rw b (bar-lines s.vars s.bar s.kind (leb-false 64 s.bar b)))

-- ---- what was cut before a substitution

mixed-lines : (m : ℕ) → Lines 140 (mixed_text m)
unfolding mixed_text bytes
mixed-lines m =
    let wrong = rest_then (piece 56 (bytes "the figures shown may be wrong, and not only incomplete.") refl) newline-rest in
    let cut = rest_then (piece 66 (bytes " (subst_var) puts something for a variable of a table that was cut") refl)
    (rest_broken {b = 58} refl (omega arith) wrong) in
    decide (ltb m 64)
    (λ b.
    rw b (lines-up (lines (omega arith) (rest_then (tell-two "Place " m (piece 6 (bytes "Place ") refl) (omega (arith, ltb-true m 64 b))) cut)) (omega arith)))
    (λ b. rw b (lines-up lines_none (omega arith)))

-- ---- all of it

module _ (known : List Header) (hs : List ℕ) (cs : List Float) (ss fs : List ℕ) (w : ℕ) (xs : List Float) where
  pub reckoned-lines : (asked : Asked) → stored (header_of w) ≤ 256 → Lines 95600 (reckoned_text known hs cs ss fs w xs asked)
  unfolding reckoned_text parts_text
  reckoned-lines asked l =
      let s = sums_of known hs cs ss fs w xs in
      let t = used_total asked.total s in
      lines-up
      (lines_then (mixed-lines (first_mixed known ss (length hs) fs (last_place hs ss)))
      (lines_then (totals-lines asked.total s)
      (lines_then (chance-lines known ss (length hs) fs (last_place hs ss) (header_of w) xs t asked.chance)
      (figures-lines (header_of w) xs t (good_total t) (word-lengths w) l))))
      (omega arith)
