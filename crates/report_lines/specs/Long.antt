-- The lines that are said of limits keep to 80 columns, for 64 places whose headers keep the rules; and how long they
-- are.
-- The widest line of a place is that of a `taylor_expansion_of_coeff` in four variables, whose n has two digits since
-- it is below a limit.
use Prim.Native.Nat.{ℕ, zero, suc, ◌+◌, ◌-◌, ◌≤◌, ◌<◌}
use Rattle.std.proofs.Math.Bool.{Bool, true, false, cond}
use Rattle.std.specs.Prelude.{◌&&◌, ◌||◌, ◌≡◌, leb, ltb, length}
use mathlib.Core.List.{List, ◌++◌}
use Rattle.std.proofs.Math.Path.{refl}
use Rattle.std.proofs.Common.{sym, ap, arith}
use Rattle.std.proofs.Math.Dec.{eqb}
use borrow.Author.Tests.{ltb-false, leb-true, leb-false, eqb-true, eqb-false}
use Rattle.lists.specs.Bytes.{bytes}
use Rattle.lists.specs.Every.{every}
use Rattle.lists.specs.Test.{decide, and_left, and_right, or_right, of-both}
use Rattle.model.specs.declared.Header.{Header}
use Rattle.model_recipes.specs.declared.Uses.{Uses}
use Rattle.model.specs.Header.{limit, len}
use Rattle.model_recipes.specs.Recipe.{head_at}
use Rattle.model_recipes.specs.Steps.{step_of, rows, uses_of}
use Rattle.model_texts.specs.Printed.{decimal}
use Rattle.model_texts.specs.Trace.{uses_in, step_word, has, limit_at, is_cut, cut_operand, follow, decider, lowerer, furthest}
use Rattle.model_texts.specs.Full.{many, endless, full_at}
use Rattle.model_texts.specs.Whole.{passes, first_out, is_whole}
use Rattle.model_texts.specs.Report.{pair_text, shape_text, kind_names, kind_text, fields_text, step_text, what_text, place_kind_text, variable_text}
use Rattle.model_texts.specs.Report.{falls_text, fills_text, need_text, lowered_text, break_text, needs_front}
use Rattle.model_texts.specs.Report.{fills_line, falls_line, needs_line, cut_text, cuts_text}
use Rattle.model_texts.specs.Report.{place_text, source, is_lowered, limit_text, decider_text, limit_has, further_text}
use Rattle.model_texts.specs.Report.{end_front, end_line, end_text, verdict_text}
use Rattle.shape_words.specs.Rules.{Regular, ruled-at}
use Rattle.recipes_kinds.specs.Known.{Known, small-kind, small-variable}
use Rattle.report_trace.specs.Ends.{Ordered}
use Rattle.report_trace.specs.Furthest.{furthest-before}
use Rattle.report_trace.specs.Counted.{or-false}
use Rattle.report_trace.specs.Small.{a_small, b-small, cut_small, follow-small, decider-small, lowerer-small}
use Rattle.report_lines.specs.Columns.{in_columns, column_after, Piece, piece, piece_up, piece_then, piece-either}
use Rattle.report_lines.specs.Columns.{piece-when, piece_if, piece-joined, piece-named, small_piece, one-digit}
use Rattle.report_lines.specs.Columns.{two_digits, tell-two, Rest, newline-rest, rest_up, rest_then, rest_broken}
use Rattle.report_lines.specs.Columns.{rest-shift, Lines, lines, written, lines-up, lines_then, lines-either}
use Rattle.report_lines.specs.Columns.{lines_if, lines-joined}

-- ---- what a step is: 35 columns at most

-- n has two digits in a `taylor_expansion_of_coeff`
abbrev pub Short : ℕ → Type 0
Short w = (step_of w).kind ≡ 8 → (step_of w).n < 100

-- the columns of the fields that are used, n having so many digits
abbrev field_columns : Uses → ℕ → ℕ
field_columns u m = cond u.a 3 0 + (cond u.b 3 0 + (cond u.variable 3 0 + cond u.n (2 + m) 0))

fields_piece : (w m : ℕ) → Piece m (decimal (step_of w).n) → Piece (field_columns (uses_in w) m) (fields_text w)
unfolding fields_text bytes
fields_piece w m p =
    piece_then (piece-when (uses_in w).a (tell-two " " (step_of w).a (piece 1 (bytes " ") refl) (omega (arith, a_small w))))
    (piece_then (piece-when (uses_in w).b (tell-two " " (step_of w).b (piece 1 (bytes " ") refl) (omega (arith, b-small w))))
    (piece_then (piece-when (uses_in w).variable (piece_then (piece 2 (bytes " v") refl) (one-digit (step_of w).variable (omega (arith, small-variable w)))))
    (piece-when (uses_in w).n (piece_then (piece 2 (bytes " n") refl) p))))

-- a kind's name, and its fields
abbrev step_columns : ℕ → ℕ → ℕ
step_columns k m = length (kind_text k) + field_columns (uses_of k) m

pub name_piece : (k : ℕ) → Piece (length (kind_text k)) (kind_text k)
unfolding kind_text kind_names bytes
name_piece k = record { most = omega arith; plain = (piece-named 25 kind_names k refl).plain }

every-at : (f : ℕ → Bool) (n p q : ℕ) → every f n p ≡ true → p ≤ q → q < p + n → f q ≡ true
unfolding every
every-at f zero p q e a b = absurd (omega arith)
every-at f (suc n) p q e a b =
    decide (eqb p q)
    (λ t. rw (← eqb-true p q t) (and_left (f p) (every f n (suc p)) e))
    (λ t. let d = eqb-false p q t in every-at f n (suc p) q (and_right (f p) (every f n (suc p)) e) (omega (arith, d)) (omega arith))

-- every kind but one has room for an n of ten digits
abbrev roomy : ℕ → Bool
roomy k = eqb k 8 || leb (step_columns k 10) 35

kinds-roomy : every roomy 16 0 ≡ true
unfolding every kind_text kind_names bytes rows
kinds-roomy = refl

widest : step_columns 8 2 ≤ 35
unfolding kind_text kind_names bytes rows
widest = leb-true _ _ refl

n-ten : (w : ℕ) → Piece 10 (decimal (step_of w).n)
unfolding step_of
n-ten w = small_piece 10 _ (omega arith) (omega arith) (omega arith)

step_piece : (w : ℕ) → Short w → Piece 35 (step_text w)
unfolding step_text
step_piece w s =
    let k : ℕ = (step_of w).kind in
    decide (eqb k 8)
    (λ t.
    let e : k ≡ 8 = eqb-true k 8 t in
    let f : step_columns k 2 ≡ step_columns 8 2 = ap (λ (j : ℕ). step_columns j 2) e in
    piece_up (piece_then (name_piece k) (fields_piece w 2 (two_digits (step_of w).n (s e)))) (omega (arith, f, widest)))
    (λ t.
    let f =
    leb-true (step_columns k 10) 35 (or_right (eqb k 8) (leb (step_columns k 10) 35)
    (every-at roomy 16 0 k kinds-roomy (omega arith) (omega (arith, small-kind w))) t) in
    piece_up (piece_then (name_piece k) (fields_piece w 10 (n-ten w))) f)

what_piece : (ss : List ℕ) (inputs p : ℕ) → (inputs ≤ p → Short (step_word ss inputs p)) → Piece 35 (what_text ss inputs p)
unfolding what_text bytes
what_piece ss inputs p s =
    decide (ltb p inputs)
    (λ t. rw t (piece 35 (bytes "input") refl))
    (λ t. rw t (step_piece (step_word ss inputs p) (s (ltb-false p inputs t))))

-- ---- the line of a place: 78 columns at most

module _ {h : Header} (r : Regular h) where
  pair_piece : (v : ℕ) → v < 4 → Piece 6 (pair_text h v)
  unfolding pair_text bytes
  pair_piece v l =
      let g = ruled-at r.rules v l in
      piece_if (ltb v h.vars)
      (piece_then (tell-two " " (limit h v) (piece 1 (bytes " ") refl) (omega (arith, g.most)))
      (tell-two "/" (len h v) (piece 1 (bytes "/") refl) (omega (arith, g.most, g.fit))))

  shape-rest : Rest 33 34 (shape_text h)
  unfolding shape_text bytes
  shape-rest =
      rest_then (piece_then (piece 7 (bytes "; vars ") refl) (one-digit h.vars (omega (arith, r.rules.few))))
      (rest_then (piece_if (ltb 0 h.vars) (piece 1 (bytes ":") refl)) (rest_then (piece-joined (pair_text h) 6 4 pair_piece) newline-rest))

-- ---- what decides a limit

pub kind-place_piece : (inputs d : ℕ) → d < 64 → Piece 16 (place_kind_text inputs d)
unfolding place_kind_text bytes
kind-place_piece inputs d l =
    piece_then (tell-two "place " d (piece 6 (bytes "place ") refl) (omega arith))
    (piece-either (ltb d inputs) (piece 8 (bytes " (input)") refl) (piece 8 (bytes " (step)") refl))

variable_piece : (p v : ℕ) → p < 64 → v < 4 → Piece 19 (variable_text p v)
unfolding bytes
variable_piece p v l k =
    piece_then (tell-two "place " p (piece 6 (bytes "place ") refl) (omega arith))
    (piece_then (piece 10 (bytes " variable ") refl) (one-digit v (omega arith)))

lowered_piece : (l m s n : ℕ) → m < 100 → s < 64 → Piece (cond (ltb l m) 37 0) (lowered_text l m s n)
unfolding lowered_text bytes
lowered_piece l m s n h k =
    piece-when (ltb l m)
    (piece_then (tell-two " (" m (piece 2 (bytes " (") refl) h)
    (piece_then (tell-two ", less " (m - l) (piece 7 (bytes ", less ") refl) (omega arith))
    (piece_then (tell-two " by place " s (piece 10 (bytes " by place ") refl) (omega arith))
    (piece_then (piece_if (ltb n (m - l)) (piece 11 (bytes " and before") refl)) (piece 1 (bytes ")") refl)))))

need_piece : (f : ℕ) → f ≤ many → Piece (cond (endless f || eqb f many) 28 18) (need_text f)
unfolding need_text bytes
need_piece f h =
    decide (endless f)
    (λ t. rw t (piece 28 (bytes ": may go on without end") refl))
    (λ t.
    decide (eqb f many)
    (λ u. rw (t, u) (piece 28 (bytes ": needs more than 4000000000") refl))
    (λ u. rw (t, u) (piece_then (piece 8 (bytes ": needs ") refl) (small_piece 10 f (omega arith) (omega arith) (omega arith)))))

module _ (known : List Header) (ss : List ℕ) (inputs : ℕ) (g : Known known) where
  limit-small : (v p : ℕ) → v < 4 → limit_at known v p < 100
  limit-small v p l = omega (arith, (ruled-at (g.at p).rules v l).most)

  pub place-lines : (p : ℕ) → p < 64 → (inputs ≤ p → Short (step_word ss inputs p)) → Lines 79 (place_text known ss inputs p)
  unfolding place_text bytes
  place-lines p l s =
      lines (omega arith)
      (rest_then (tell-two "place " p (piece 6 (bytes "place ") refl) (omega arith))
      (rest_then (piece 2 (bytes ": ") refl) (rest_then (what_piece ss inputs p s) (shape-rest (g.at p)))))

  module _ (p v : ℕ) (l : p < 64) (k : v < 4) where
    abbrev lowered : Bool
    lowered = is_lowered known ss inputs p v

    limit_piece : Piece (2 + cond lowered 37 0) (limit_text known ss inputs p v)
    unfolding limit_text
    limit_piece =
        piece_then (two_digits (limit_at known v p) (limit-small v p k))
        (lowered_piece (limit_at known v p) (source known ss inputs p v) (lowerer known v ss inputs p)
        (step_of (step_word ss inputs (lowerer known v ss inputs p))).n
        (limit-small v (decider known v ss inputs p) k) (lowerer-small known v ss inputs p l))

    decider_piece : Piece 19 (decider_text known ss inputs p v)
    unfolding decider_text bytes
    decider_piece =
        piece_then (piece 3 (bytes "as ") refl)
        (kind-place_piece inputs (decider known v ss inputs p) (decider-small known v ss inputs p l))

    has_rest : Rest (27 + cond lowered 37 0) (28 + cond lowered 37 0) (limit_has known ss inputs p v)
    unfolding limit_has bytes
    has_rest =
        rest_up
        (rest_then limit_piece (rest_then (piece 2 (bytes ", ") refl) (rest_then decider_piece (rest_then (piece 4 (bytes " has") refl) newline-rest))))
        (omega arith) (omega arith)

    -- ---- inputs that fill their limits, and limits that fall

    fills-lines : Lines 72 (fills_line known p v)
    unfolding fills_line fills_text bytes
    fills-lines =
        lines_if (has known v p && eqb (len (head_at known p) v) (limit_at known v p))
        (lines (omega arith)
        (rest_then (variable_piece p v l k)
        (rest_then (tell-two ": fills its limit of " (limit_at known v p) (piece 21 (bytes ": fills its limit of ") refl) (limit-small v p k))
        (rest_then (piece 29 (bytes " and may have been cut before") refl) newline-rest))))

    abbrev operand : ℕ
    operand = cut_operand known v (step_word ss inputs p) p

    falls-lines : Lines 69 (falls_line known ss inputs p v)
    unfolding falls_line falls_text bytes
    falls-lines =
        let q = follow known v ss inputs p in
        lines_if (is_cut known v (step_word ss inputs p) p)
        (lines (omega arith)
        (rest_then (variable_piece p v l k)
        (rest_then (tell-two ": limit falls from " (limit_at known v operand) (piece 19 (bytes ": limit falls from ") refl) (limit-small v operand k))
        (rest_then (tell-two " (place " operand (piece 8 (bytes " (place ") refl) (omega (arith, cut_small known v (step_word ss inputs p) p)))
        (rest_then (tell-two ") to " (limit_at known v p) (piece 5 (bytes ") to ") refl) (limit-small v p k))
        (rest_then (tell-two " (place " q (piece 8 (bytes " (place ") refl) (omega (arith, follow-small known v ss inputs p l)))
        (rest_then (piece 1 (bytes ")") refl) newline-rest)))))))

    -- ---- full lengths that pass their limits

    module _ (fs : List ℕ) where
      abbrev full : ℕ
      full = full_at fs p v

      is-rest : Rest (40 + cond lowered 37 0) (41 + cond lowered 37 0) (bytes "its limit is " ++ limit_has known ss inputs p v)
      unfolding bytes
      is-rest = rest_up (rest_then (piece 13 (bytes "its limit is ") refl) has_rest) (omega arith) (omega arith)

      -- on one line, or broken in two
      broken-rest : (b : Bool) → b ≡ ((endless full || eqb full many) || lowered)
          → Rest 60 111 (need_text full ++ (break_text b ++ (bytes "its limit is " ++ limit_has known ss inputs p v)))
      unfolding bytes
      broken-rest true e =
          let n = need_piece full (omega arith) in
          let most : cond (endless full || eqb full many) 28 18 ≤ 28 =
          of-both (λ (x : ℕ). x ≤ 28) (endless full || eqb full many) {x = 28} {y = 18} (omega arith) (omega arith) in
          let some : cond lowered 37 0 ≤ 37 =
          of-both (λ (x : ℕ). x ≤ 37) lowered {x = 37} {y = 0} (omega arith) (omega arith) in
          let two : Rest 79 80 (bytes "  " ++ (bytes "its limit is " ++ limit_has known ss inputs p v)) =
          rest_up (rest_then (piece 2 (bytes "  ") refl) is-rest) (omega (arith, some)) (omega (arith, some)) in
          rest_up (rest_then (piece_up n most) (rest_broken {k = 79} {n = 80} {b = 44} refl (omega arith) two)) (omega arith) (omega arith)
      broken-rest false e =
          let h = or-false (endless full || eqb full many) lowered (sym e) in
          let n : Piece 18 (need_text full) = rw h.0 at (need_piece full (omega arith)) in
          let r : Rest 40 41 (bytes "its limit is " ++ limit_has known ss inputs p v) = rw h.1 at is-rest in
          rest_up (rest_then n (rest_then (piece 2 (bytes ", ") refl) r)) (omega arith) (omega arith)

      needs-lines : Lines 130 (needs_line known ss inputs fs p v)
      unfolding needs_line needs_front
      needs-lines =
          let b : Bool = (endless full || eqb full many) || lowered in
          let tail : List ℕ = bytes "its limit is " ++ limit_has known ss inputs p v in
          lines_if (passes known fs p v)
          (lines (omega arith)
          (rest-shift (variable_text p v) (need_text full ++ break_text b) tail
          (rest_then (variable_piece p v l k) (rest-shift (need_text full) (break_text b) tail (broken-rest b refl)))))

      cut-lines : Lines 199 (cut_text known ss inputs fs p v)
      unfolding cut_text
      cut-lines =
          lines-either (ltb p inputs) (lines-up fills-lines (omega arith)) (lines_then falls-lines needs-lines)

    -- ---- the limits of the answer

    module _ {m : ℕ} (o : Ordered ss inputs m) (q : p < m) where
      abbrev far : ℕ
      far = furthest known v ss inputs p

      further-rest : Rest 1 24 (further_text known ss inputs p v ++ bytes "\n")
      unfolding further_text bytes
      further-rest =
          decide (ltb (source known ss inputs p v) (limit_at known v far))
          (λ t.
          rw t
          (rest_broken {k = 21} {n = 22} {b = 59} refl (omega arith)
          (rest_then
          (piece_then (tell-two "  place " far (piece 8 (bytes "  place ") refl) (omega (arith, furthest-before known v ss inputs o p q)))
          (tell-two " went to " (limit_at known v far) (piece 9 (bytes " went to ") refl) (limit-small v far k)))
          newline-rest)))
          (λ t. rw t (rest_up newline-rest (omega arith) (omega arith)))

      front_piece : Piece (35 + cond lowered 37 0) (end_front known ss inputs p v)
      unfolding end_front bytes
      front_piece =
          piece_up
          (piece_then (piece_then (piece 9 (bytes "variable ") refl) (one-digit v (omega arith)))
          (piece_then (piece 23 (bytes " of the answer ends at ") refl) limit_piece))
          (omega arith)

      does-rest : Rest 25 48 (decider_text known ss inputs p v ++ (bytes " does" ++ (further_text known ss inputs p v ++ bytes "\n")))
      unfolding bytes
      does-rest = rest_then decider_piece (rest_then (piece 5 (bytes " does") refl) further-rest)

      end_rest : (b : Bool) → b ≡ lowered
          → Rest 73 124 (end_front known ss inputs p v
          ++ (break_text b ++ (decider_text known ss inputs p v
          ++ (bytes " does" ++ (further_text known ss inputs p v ++ bytes "\n")))))
      unfolding bytes
      end_rest true e =
          let f : Piece 72 (end_front known ss inputs p v) = rw (sym e) at front_piece in
          let two = rest_then (piece 2 (bytes "  ") refl) does-rest in
          rest_up (rest_then f (rest_broken {k = 27} {n = 50} {b = 44} refl (omega arith) two)) (omega arith) (omega arith)
      end_rest false e =
          let f : Piece 35 (end_front known ss inputs p v) = rw (sym e) at front_piece in
          rest_up (rest_then f (rest_then (piece 2 (bytes ", ") refl) does-rest)) (omega arith) (omega arith)

      pub end-lines : Lines 124 (end_text known ss inputs p v)
      unfolding end_text end_line
      end-lines = lines_if (has known v p) (lines (omega arith) (end_rest lowered refl))

  pub cuts-lines : (fs : List ℕ) (p : ℕ) → p < 64 → Lines 796 (cuts_text known ss inputs fs p)
  unfolding cuts_text
  cuts-lines fs p l = lines-joined (cut_text known ss inputs fs p) 199 4 (λ v k. cut-lines p v l k fs)

  pub verdict-lines : (fs : List ℕ) (p : ℕ) → Lines 80 (verdict_text known ss inputs fs p)
  unfolding verdict_text is_whole bytes in_columns column_after
  verdict-lines fs p =
      let q = first_out known ss inputs fs p in
      decide (leb 64 q)
      (λ t. rw t (written 80 (bytes "*** WHOLE: with each input as it is stored, no limit left anything out. ***\n") refl refl))
      (λ t.
      rw t
      (lines-up
      (lines (omega arith)
      (rest_then
      (tell-two "*** CUT: what lies past the limits of place " q
      (piece 44 (bytes "*** CUT: what lies past the limits of place ") refl) (omega (arith, leb-false 64 q t)))
      (rest_then (piece 17 (bytes " is left out. ***") refl) newline-rest)))
      (omega arith)))
