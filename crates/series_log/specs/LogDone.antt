-- The row k of log as it was stored, and what its calls ask.
use Rattle.std.specs.Prelude.{ℕ, ◌+◌, ◌-◌, ◌*◌, ◌≤◌, List, ◌++◌, ◌≡◌, length, take, drop, Float}
use Rattle.std.proofs.Common.{sym, ap, ◌∙◌, arith, mul-le-mul_right, zero-mul, length-append, length-drop, take_at, take_all}
use borrow.Rule.Slice.PartMut.{put_mid}
use Rattle.lists.specs.Four.{at}
use Rattle.lists.specs.Part.{part, Below, below_less, below_then, below-part, Kept, kept_above}
use Rattle.lists.specs.Table.{length-table}
use Rattle.model.specs.Header.{count}
use Rattle.model.specs.Poly.{block}
use Rattle.model.specs.Quotient.{recurred}
use Rattle.model.specs.Series.{after, times_whole, over_whole}
use Rattle.shape_words.specs.Lengths.{Lengths}
use Rattle.blocks.specs.Rows.{Inner, count-inner}
use Rattle.shape_words.specs.InRow.{in_row}
use Rattle.shape_words.specs.Strides.{stride-at}
use Rattle.quotient.specs.Room.{Recurring}
use Rattle.series_gathering.specs.Reach.{Shaped}
use Rattle.series_gathering.specs.Gather.{row_at}
use Rattle.series_log.specs.LogRow.{LogRoom, left_row, after-lengths, after-inner, count_after_lem, log-fits}
use Rattle.series_gathering.specs.Kept.{kept_put, row_under}

-- ---- the inner quotient

pub record Divisor (ax ar : List ℕ) (mx mw mr : ℕ) : Type 0 where
  pub right : Lengths ax
  pub result : Lengths ar
  pub inner : Inner ar ax
  pub operand : mx ≡ count ax
  pub row : mr ≡ count ar
  pub less : mx ≤ mr
  pub work : mw ≡ 8 * mr

module _ {ax ar : List ℕ} {mx mw mr : ℕ} (d : Divisor ax ar mx mw mr) where
  pub divisor_recurs : {mw' mo : ℕ} → mw' ≡ mw → mo ≡ mr → Recurring ar ax ar mr mx mw' mo
  divisor_recurs e f = record {
    left = d.result;
    right = d.right;
    result = d.result;
    inner_x = record { c0 = omega arith; c1 = omega arith; c2 = omega arith; c3 = omega arith };
    inner_y = d.inner;
    full_x = d.row;
    full_y = d.operand;
    work = e ∙ (d.work ∙ ap (λ (k : ℕ). 8 * k) d.row);
    out = f ∙ d.row;
  }

  -- the dividend at the front of the work, the divisor behind it
  pub divisor-is : (xs row w : List Float) {one two : List Float} {z y q : ℕ} → length xs ≡ mx → length row ≡ mr
      → length w ≡ mw → one ≡ take z row → z ≡ mr → two ≡ take y xs → y ≡ mx → q ≡ mx
      → (take mr (put_mid mr q (one ++ drop mr w) two) ≡ row) × (part mr (mr + mx) (put_mid mr q (one ++ drop mr w) two) ≡ xs)
  divisor-is xs row w {one} {two} {z} {y} {q} lx lr lw a ez b ey eq =
      let g = d.less in
      let h = d.work in
      let o : one ≡ row = a ∙ take_all z row (omega arith) in
      let t : two ≡ xs = b ∙ take_all y xs (omega arith) in
      let s : mr + mx - mr ≡ mx = omega arith in
      let l : length (row ++ drop mr w) ≡ mw = length-append row (drop mr w) ∙ (rw (length-drop mr w) (omega arith)) in
      let k = kept_put mr (mr + mx) (row ++ drop mr w) {xs = xs} {q = q} (lx ∙ sym s) (omega arith) (omega arith) (eq ∙ sym s) in
      rw (o, t) (k.below.head ∙ take_at row (drop mr w) mr lr, k.holds)

-- ---- the row

-- over x's row 0, then over k
abbrev pub divided_row : List ℕ → List ℕ → ℕ → ℕ → List Float → List Float → List Float
divided_row lx r v k xs ys = over_whole k (recurred (block (after v r) (left_row lx r v k xs ys)) (block (after v lx) (row_at lx v 0 xs)) (after v r))

-- xs was stored from a up to e, and times k as much further on; the rows beside it are as they were
pub record Rowed (n a e k : ℕ) (xs w w' : List Float) : Type 0 where
  pub len : length w' ≡ length w
  pub before : take a w' ≡ take a w
  pub row : part a e w' ≡ xs
  pub scaled : part (n + a) (n + e) w' ≡ times_whole k xs
  pub beside : (f t : ℕ) → n ≤ f → f ≤ t → t ≤ n + a → part f t w' ≡ part f t w

pub kept_same : {a e : ℕ} {xs ys w w' : List Float} → xs ≡ ys → Kept a e xs w w' → Kept a e ys w w'
kept_same h k = record { below = k.below; holds = k.holds ∙ h; above = k.above }

-- four writes, one after the other: two above 2 n, the row, the row times k
pub rowed : {n a e k : ℕ} {xs w w1 w2 w3 w4 : List Float} → Below (2 * n) w w1 → Below (2 * n) w1 w2 → Kept a e xs w2 w3
    → Kept (n + a) (n + e) (times_whole k xs) w3 w4 → a ≤ e → e ≤ n → Rowed n a e k xs w w4
rowed {n} {a} {e} {k} {xs} {w} {w1} {w2} {w3} {w4} b c r s h l =
    let d : Below (2 * n) w w2 = below_then b c in
    record {
      len = s.below.len ∙ (r.below.len ∙ d.len);
      before = (below_less {s = a} {t = n + a} (omega arith) s.below).head ∙ (r.below.head ∙ (below_less {s = a} {t = 2 * n} (omega arith) d).head);
      row = below-part a e s.below h (omega arith) ∙ r.holds;
      scaled = s.holds;
      beside = λ f t p q i. below-part f t s.below q i ∙ (kept_above f t r (omega arith) ∙ below-part f t d q (omega arith));
    }

-- ---- what the calls ask

module _ {lx sx r sr : List ℕ} (g : Shaped lx sx r sr) {v k n mx mw mr : ℕ} (p : LogRoom lx r v k n mx mw mr) where
  width : at sr v ≡ in_row r v
  width = stride-at r g.strided.by_r p.some

  wide_lem : at sx v ≡ in_row lx v
  wide_lem = stride-at lx g.strided.by_x p.some

  -- there are two rows at least
  pub log_half : 2 * at sr v ≤ n
  log_half = let m : 1 * at sr v ≤ k * at sr v = mul-le-mul_right (at sr v) p.first in omega (arith, m, log-fits g p)

  -- the operand's row 0
  pub first_in-operand : at sx v ≤ mx
  first_in-operand = rw wide_lem (row_under g.strided.left p.some p.operand)

  pub row-divisor : {ax ar : List ℕ} {a b c : ℕ} → ax ≡ after v lx → ar ≡ after v r → a ≡ at sx v → b ≡ 8 * at sr v → c ≡ in_row r v → Divisor ax ar a b c
  row-divisor ex er ea eb ec = rw (ex, er) record {
    right = after-lengths v g.strided.left;
    result = after-lengths v g.strided.result;
    inner = after-inner v g.inner;
    operand = ea ∙ (wide_lem ∙ sym (count_after_lem lx v p.some));
    row = ec ∙ sym (count_after_lem r v p.some);
    less = omega (arith, wide_lem, row-less);
    work = eb ∙ ap (λ (i : ℕ). 8 * i) (width ∙ sym ec);
  }
    where
      row-less : in_row lx v ≤ in_row r v
      row-less = let a = count_after_lem lx v p.some in let b = count_after_lem r v p.some in omega (arith, count-inner (after-inner v g.inner))

  -- the row as it was made and stored
  pub log_rowed : (w xs d : List Float) → length w ≡ mw → {w1 one two three copied scaled : List Float} {ax ar : List ℕ} {q1 q2 q3 z : ℕ}
      → one ≡ left_row lx r v k xs (part n (n + k * in_row r v) w) → Below (2 * n) w w1 → ax ≡ after v lx → ar ≡ after v r
      → two ≡ recurred (block ar one) (block ax (part 0 (at sx v) xs)) ar → length d ≡ 8 * at sr v → q1 ≡ 8 * at sr v
      → three ≡ over_whole k two → length three ≡ in_row r v
      → copied ≡ take z three → z ≡ at sr v → q2 ≡ at sr v → scaled ≡ times_whole k three → q3 ≡ at sr v
      → Rowed n (k * in_row r v) (k * in_row r v + in_row r v) k (divided_row lx r v k xs (part n (n + k * in_row r v) w)) w
      (put_mid (n + k * at sr v) q3 (put_mid (k * at sr v) q2 (put_mid (2 * n) q1 w1 d) copied) scaled)
  log_rowed w xs d lw {w1} {one} {two} {three} {copied} {scaled} {ax} {ar} {q1} {q2} {q3} {z} e b ex er e2 ld eq1 e3 l3 ec ez eq2 es eq3 =
      let s : ℕ = in_row r v in
      let f = log-fits g p in
      let half = log_half in
      let room = p.work in
      let lw1 = b.len in
      let o : at sx v - 0 ≡ in_row lx v = rw wide_lem (omega arith) in
      let zero_row : part 0 (at sx v) xs ≡ row_at lx v 0 xs = rw (o, zero-mul (in_row lx v)) in
      let step : recurred (block ar one) (block ax (part 0 (at sx v) xs)) ar
      ≡ recurred (block (after v r) (left_row lx r v k xs (part n (n + k * s) w)))
      (block (after v lx) (row_at lx v 0 xs)) (after v r) = rw (ex, er, e, zero_row) in
      let value : three ≡ divided_row lx r v k xs (part n (n + k * s) w) = e3 ∙ ap (over_whole k) (e2 ∙ step) in
      let same : copied ≡ three = ec ∙ take_all z three (omega (arith, width)) in
      let d1 : 2 * n + 8 * at sr v - 2 * n ≡ 8 * at sr v = omega arith in
      let k1 = kept_put (2 * n) (2 * n + 8 * at sr v) w1 {xs = d} {q = q1} (ld ∙ sym d1) (omega arith) (omega arith) (eq1 ∙ sym d1) in
      let w2 : List Float = put_mid (2 * n) q1 w1 d in
      let lw2 = k1.below.len in
      let d2 : k * s + s - k * s ≡ s = omega arith in
      let fits : k * s + s ≤ n = rw (← width) f in
      let k2 = kept_put (k * s) (k * s + s) w2 {xs = copied} {q = q2} (ap length same ∙ (l3 ∙ sym d2)) (omega arith) (omega arith) (eq2 ∙ (width ∙ sym d2)) in
      let w3 : List Float = put_mid (k * s) q2 w2 copied in
      let lw3 = k2.below.len in
      let d3 : n + (k * s + s) - (n + k * s) ≡ s = omega arith in
      let k3 =
      kept_put (n + k * s) (n + (k * s + s)) w3 {xs = scaled} {q = q3}
      (ap length es ∙ (length-table _ _ ∙ (l3 ∙ sym d3))) (omega arith) (omega arith) (eq3 ∙ (width ∙ sym d3)) in
      let row_is = same ∙ value in
      let scaled-is = es ∙ ap (times_whole k) value in
      rw width (rowed b k1.below (kept_same row_is k2) (kept_same scaled-is k3) (omega arith) fits)
