-- The rows of the first variable, one after the other.
use Rattle.std.specs.Prelude.{ℕ, ◌+◌, ◌-◌, ◌*◌, ◌≤◌, ◌<◌, List, [], false, ◌≡◌, length, get_or, take, Float}
use Rattle.std.proofs.Common.{sym, ap, ◌∙◌, le_refl, take_all, length-take-le}
use native.Mathlib.Omega.{arith}
use Rattle.std.specs.Float.{nan}
use Rattle.std.specs.Float.Ieee.{neg}
use borrow.Rule.Slice.PartMut.{put_mid}
use Rattle.lists.specs.Four.{at}
use Rattle.lists.specs.Table.{table, table_same, table_at, length-table}
use Rattle.lists.specs.Part.{part, length_part}
use Rattle.lists.specs.Grow.{grow}
use Rattle.model.specs.Header.{count}
use Rattle.model.specs.Places.{index}
use Rattle.model.specs.Poly.{block}
use Rattle.model.specs.Negate.{negated_at}
use Rattle.model.specs.Add.{join_at}
use Rattle.model.specs.Quotient.{recurred}
use Rattle.shape_words.specs.InRow.{in_row}
use Rattle.shape_words.specs.Strides.{span_more, stride-at}
use Rattle.quotient_levels.specs.Grows.{length-grown}
use Rattle.quotient_lessening.specs.Laid.{Laid, laid_none, laid-mid, laid_append, laid-above, laid-part, laid-under, laid-front}
use Rattle.quotient_levels.specs.Level.{taken_at, level_of}
use Rattle.quotient_levels.specs.Room.{Dividing, Room, RowRoom}
use Rattle.quotient.specs.Room.{First, Adding}
use Rattle.quotient.specs.First.{first_at, quotient_next, first_more}
use Rattle.quotient_levels.specs.Levels.{level_stride, level-top, level_in}

-- the row k, gathered
module _ {lx ly sy r sr : List ℕ} (g : Dividing ly sy r sr) {nx k p q b f mr : ℕ} (d : First lx r nx q) (w : List Float)
    (t : RowRoom ly r 0 k p (p + count r) q b f (length w) mr) where
  pub first_fits : nx ≤ length w
  first_fits = let a = t.apart in let m = t.room in omega (arith, d.below)

  pub first_adding : {m : ℕ} → m ≡ in_row r 0 → Adding lx r k (length (take nx w)) m
  first_adding e =
      record {
        left = d.left;
        result = g.strided.result;
        inner = d.inner;
        room = rw (length-take-le nx w first_fits) (omega (arith, d.full));
        turn = t.turn;
        row = e;
      }

  pub first_stride : at sr 0 ≡ in_row r 0
  first_stride = stride-at r g.strided.by_r (omega arith)

  pub first-gathered : {row1 row2 row3 row4 : List Float}
      → row1 ≡ table (in_row r 0) (taken_at ly r 0 k (part q (q + k * at sr 0) w) (part b f w)) → row2 ≡ table (length row1) (negated_at row1)
      → row3 ≡ table (in_row r 0) (λ i. join_at false (get_or row2 i nan) (block lx (take nx w))
      (index r (k * in_row r 0 + i))) → row4 ≡ take (length (part p (p + at sr 0) w)) row3
      → Laid p (table (in_row r 0) (first_at lx (take nx w) ly r k (part q (q + k * in_row r 0) w) (part b f w))) (length w) w (put_mid p
      (p + at sr 0 - p) w row4)
  first-gathered {row1} {row2} {row3} {row4} e1 e2 e3 e4 =
      let s : ℕ = in_row r 0 in
      let done : ℕ → List Float = λ x. part q (q + k * x) w in
      let n1 : length row1 ≡ s = ap length e1 ∙ length-table _ s in
      let n3 : length row3 ≡ s = ap length e3 ∙ length-table _ s in
      let x2 : (i : ℕ) → i < s → get_or row2 i nan ≡ neg (taken_at ly r 0 k (done s) (part b f w) i) =
      λ i l.
      ap (λ (z : List Float). get_or z i nan) e2
      ∙ (table_at nan (negated_at row1) (length row1) i (omega arith)
      ∙ ap neg (ap (λ (z : List Float). get_or z i nan) e1 ∙ (table_at nan _ s i l ∙ ap (λ (z : ℕ). taken_at ly r 0 k (done z) (part b f w)
      i) first_stride))) in
      let x3 : row3 ≡ table s (first_at lx (take nx w) ly r k (done s) (part b f w)) =
      e3 ∙ table_same _ _ s (λ i l. ap (λ (z : Float). join_at false z (block lx (take nx w)) (index r (k * s + i))) (x2 i l)) in
      let m : ℕ = p + at sr 0 - p in
      let em : m ≡ s = omega (arith, first_stride) in
      let a = t.room in
      let n : length (part p (p + at sr 0) w) ≡ s = length_part p (p + at sr 0) w (omega arith) (omega (arith, first_stride)) ∙ em in
      let x4 : row4 ≡ table s (first_at lx (take nx w) ly r k (done s) (part b f w)) =
      e4 ∙ (take_all (length (part p (p + at sr 0) w)) row3 (omega (arith, n)) ∙ x3) in
      let n4 : length row4 ≡ m = ap length x4 ∙ (length-table _ s ∙ sym em) in
      rw (← x4) (laid-mid p m w row4 n4 (omega (arith, em)))

-- what the loop over the rows has laid after k turns; w the work as it came
abbrev pub firsts_laid : List ℕ → ℕ → List ℕ → List ℕ → ℕ → ℕ → List Float → ℕ → List Float
firsts_laid lx nx ly r b f w k = grow (k * in_row r 0) (quotient_next (block lx (take nx w)) (block ly (part b f w)) r) []

module _ {ly sy r sr : List ℕ} (g : Dividing ly sy r sr) {p q b f mw mr : ℕ} (t : Room ly r 0 p (p + count r) q b f mw mr) where
  pub first_next_lem : {k n : ℕ} → k < at r 0 → n ≡ mr → Room ly r 1 p (p + at sr 0) (q + k * at sr 0) b f mw n
  first_next_lem l en =
      let s = level_stride g t in
      let a = t.apart in
      let o = t.before in
      let m = t.room in
      record {
        some = omega arith;
        divisor = t.divisor;
        before = omega arith;
        apart = omega (arith, level_in g t l, s);
        ends = ap (λ (x : ℕ). p + x) s;
        room = omega arith;
        row = omega (arith, t.row);
      }

module _ {lx ly sy r sr : List ℕ} (g : Dividing ly sy r sr) {nx p q b f mr : ℕ} (d : First lx r nx q) (w : List Float)
    (t : Room ly r 0 p (p + count r) q b f (length w) mr) where
  pub firsts_more : {k : ℕ} {w1 w2 w3 : List Float} → k < at r 0 → Laid q (firsts_laid lx nx ly r b f w k) p w w1
      → Laid p (table (in_row r 0) (first_at lx (take nx w1) ly r k (part q (q + k * in_row r 0) w1) (part b f w1))) (length w1) w1 w2
      → Laid (q + k * at sr 0) (level_of ly r (part b f w2) 1 (part p (p + at sr 0) w2)) (p + at sr 0) w2 w3
      → Laid q (firsts_laid lx nx ly r b f w (k + 1)) p w w3
  firsts_more {k} {w1} {w2} {w3} l a1 a2 a3 =
      let s : ℕ = in_row r 0 in
      let xs : List Float = take nx w in
      let ys : List Float = part b f w in
      let before : List Float = firsts_laid lx nx ly r b f w k in
      let left : List Float = table s (first_at lx (take nx w1) ly r k (part q (q + k * s) w1) (part b f w1)) in
      let es = level_stride g t in
      let ek : k * at sr 0 ≡ k * s = ap (λ (x : ℕ). k * x) es in
      let i = level_in g t l in
      let x0 = d.below in
      let x1 = t.apart in
      let x3 = t.divisor in
      let x4 = t.before in
      let x5 = level-top g t in
      let n1 = a1.len in
      let n2 = a2.len in
      let nb : length before ≡ k * s = length-grown _ (k * s) in
      let nl : length left ≡ s = length-table _ s in
      let e0 : take nx w1 ≡ xs = laid-front a1 nx x0 (omega arith) in
      let e1 : part q (q + k * s) w1 ≡ before = laid-part a1 (q + k * s) (omega arith) (omega arith) in
      let e2 : part b f w1 ≡ ys = laid-under a1 b f (omega arith) (omega arith) (omega arith) in
      let e4 : part b f w2 ≡ ys = laid-under a2 b f (omega arith) (omega arith) (omega arith) ∙ e2 in
      let e5 : part p (p + at sr 0) w2 ≡ table s (first_at lx xs ly r k before ys) = laid-part a2 (p + at sr 0) (omega arith) (omega arith) ∙ rw (e0, e1, e2) in
      let a4 : Laid (q + k * at sr 0) (level_of ly r ys 1 (table s (first_at lx xs ly r k before ys))) (p + at sr 0) w2 w3 = rw (e4, e5) at a3 in
      rw (first_more lx xs ly r ys g.strided.result l) (laid_append (laid-above a1 (omega arith) (le_refl p) a2) (omega arith) a4 (omega arith))

  pub firsts-none : Laid q (firsts_laid lx nx ly r b f w 0) p w w
  unfolding grow
  firsts-none = let z : 0 * in_row r 0 ≡ 0 = omega arith in rw z laid_none

  pub firsts-all : {k : ℕ} {w' : List Float} → k ≡ at r 0 → Laid q (firsts_laid lx nx ly r b f w k) p w w'
      → Laid q (recurred (block lx (take nx w)) (block ly (part b f w)) r) p w w'
  unfolding recurred
  firsts-all {k} ek a =
      let z : k * in_row r 0 ≡ count r = rw ek (sym (span_more r (omega arith))) in
      rw z at a

pub length-recurred : (lx ly r : List ℕ) (xs ys : List Float) → length (recurred (block lx xs) (block ly ys) r) ≡ count r
unfolding recurred
length-recurred lx ly r xs ys = length-grown _ (count r)
