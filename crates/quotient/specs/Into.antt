-- The quotient of two operands: the cut, a divisor that is a constant, the recurrence.
use Rattle.std.specs.Prelude.{ℕ, ◌+◌, ◌-◌, ◌*◌, ◌≤◌, ◌<◌, min, Bool, true, false, ◌≡◌, refl, eqb, drop}
use mathlib.Core.List.{List, []}
use Rattle.std.proofs.Math.Bool.{cond}
use Rattle.std.proofs.Math.Path.{sym, ap}
use Rattle.std.proofs.Common.{◌∙◌, arith, le_refl, add-zero, lit<, take_all}
use Rattle.std.proofs.Math.ListN.{length, get_or, take}
use Rattle.std.proofs.Math.Seq.{length-take-le}
use Rattle.std.specs.Float.Ieee.{Float, nan, eq}
use borrow.Author.Tests.{eqb-true, eqb-false, eq-eqb, ne_eqb}
use Rattle.lists.specs.Test.{of-both, decide}
use Rattle.lists.specs.Four.{at, four, at-four, four_same, each}
use Rattle.lists.specs.Table.{table, length-table}
use Rattle.lists.specs.Part.{part}
use Rattle.model.specs.Header.{header, count}
use Rattle.model.specs.Places.{strides, index}
use Rattle.model.specs.Limits.{cut_to}
use Rattle.model.specs.Poly.{Block, block, read_at, cut}
use Rattle.model.specs.Readings.{one_f, first}
use Rattle.model.specs.Quotient.{divided_at, recurred, quotient_shape, quotient_of, divided}
use Rattle.shape_words.specs.Lengths.{Lengths, lengths-pos, count-pos}
use Rattle.shape_words.specs.Spans.{count-one}
use Rattle.shape.specs.Under.{count_under}
use Rattle.blocks.specs.Rows.{Inner}
use Rattle.blocks.specs.Two.{Two, Holds, cut_places, cut-is}
use Rattle.quotient_lessening.specs.Laid.{Laid, laid-part}
use Rattle.quotient_levels.specs.Room.{Dividing, Room}
use Rattle.quotient.specs.Room.{First, Recurring, Divides, loaded_quotient}
use Rattle.quotient.specs.Firsts.{length-recurred}
use Rattle.quotient_levels.specs.Gather.{part_at}

inner-by : {n c : List ℕ} → ((k : ℕ) → k < 4 → at c k ≤ at n k) → Inner n c
inner-by h = record { c0 = h 0 (lit< tt); c1 = h 1 (lit< tt); c2 = h 2 (lit< tt); c3 = h 3 (lit< tt) }

count_in_lem : {n c : List ℕ} → Inner n c → count c ≤ count n
count_in_lem {n} {c} i =
    count_under {t = header 0 [] c 0} {a = header 0 [] n 0}
    (record { vars = refl; limits = refl; most = each (λ k. at c k ≤ at n k) i.c0 i.c1 i.c2 i.c3; cap = refl })

-- ---- the recurrence

module _ {lx ly r : List ℕ} {nx ny mw mo : ℕ} (t : Recurring lx ly r nx ny mw mo) where
  pub recur_dividing : {sy sr : List ℕ} → sy ≡ strides ly → sr ≡ strides r → Dividing ly sy r sr
  recur_dividing ey er =
      record { strided = record { left = t.result; right = t.right; result = t.result; by_x = er; by_y = ey; by_r = er }; inner = t.inner_y }

  pub recur-first : First lx r nx (2 * mo)
  recur-first =
      record { left = t.left; inner = t.inner_x; full = t.full_x; below = omega (arith, t.full_x, t.out, count_in_lem t.inner_x) }

  pub recur-room : Room ly r 0 (3 * mo) (3 * mo + count r) (2 * mo) mo (mo + ny) mw mo
  recur-room =
      let o = t.out in
      let w = t.work in
      let y = t.full_y in
      record {
        some = omega arith;
        divisor = omega arith;
        before = omega (arith, count_in_lem t.inner_y);
        apart = omega arith;
        ends = refl;
        room = omega arith;
        row = omega arith;
      }

  pub recur-is : {w w' o : List Float} {n : ℕ} (xs ys : List Float) → length w ≡ mw
      → Laid (2 * mo) (recurred (block lx xs) (block ly ys) r) (3 * mo) w w' → n ≡ mo
      → o ≡ take n (part (2 * mo) (3 * mo) w') → o ≡ recurred (block lx xs) (block ly ys) r
  recur-is {w} {w'} {o} {n} xs ys l a en e =
      let f : List Float = recurred (block lx xs) (block ly ys) r in
      let m : length f ≡ mo = length-recurred lx ly r xs ys ∙ sym t.out in
      let p : part (2 * mo) (3 * mo) w' ≡ f = laid-part a (3 * mo) (omega arith) (let z = t.work in let y = t.out in omega arith) in
      e ∙ (ap (take n) p ∙ take_all n f (omega arith))

  pub recurring-fits : (nx ≤ mw) × (mo < mw)
  recurring-fits =
      let q = count-pos t.result in
      (omega (arith, t.full_x, t.work, count_in_lem t.inner_x), omega (arith, t.out, t.work))

-- ---- a constant

pick_lem : (u : Bool) (x z : Block) → cond u x.places z.places ≡ (cond u x z).places
pick_lem true x z = refl
pick_lem false x z = refl

constant-is : (l : List ℕ) (x y : Block) (c : Float) → count y.lengths ≡ 1 → first y.places ≡ c
    → cond (eq c one_f) x.places (table (count x.lengths) (divided_at c x.places)) ≡ (quotient_of l x y).places
unfolding quotient_of
constant-is l x y c n e =
    rw (← e) (simp (eq-eqb _ _ n) (pick_lem (eq (first y.places) one_f) x
    (block x.lengths (table (count x.lengths) (divided_at (first y.places) x.places)))))

recurred-is : (l r : List ℕ) (x y : Block) → (count y.lengths ≡ 1 → ⊥)
    → r ≡ quotient_shape l x.lengths y.lengths → recurred x y r ≡ (quotient_of l x y).places
unfolding quotient_of
recurred-is l r x y n s = rw s (simp (ne_eqb _ _ n))

-- ---- two operands

lengths-by : {n : List ℕ} → ((k : ℕ) → k < 4 → 1 ≤ at n k) → ((k : ℕ) → k < 4 → at n k ≤ 64) → Lengths n
lengths-by p m = record {
  p0 = p 0 (lit< tt);
  p1 = p 1 (lit< tt);
  p2 = p 2 (lit< tt);
  p3 = p 3 (lit< tt);
  m0 = m 0 (lit< tt);
  m1 = m 1 (lit< tt);
  m2 = m 2 (lit< tt);
  m3 = m 3 (lit< tt);
}

-- a length that is cut to a limit
record Cut (l n c : ℕ) : Type 0 where
  lo : 1 ≤ c
  hi : c ≤ l
  less : c ≤ n

cut_at : (l n : List ℕ) {c : List ℕ} → c ≡ cut_to l n → ((k : ℕ) → k < 4 → 1 ≤ at l k) → Lengths n → (k : ℕ) → k < 4 → Cut (at l k) (at n k) (at c k)
unfolding cut_to
cut_at l n {c} e p g k h =
    let a : at c k ≡ min (at l k) (at n k) = ap (λ (x : List ℕ). at x k) e ∙ at-four (λ k. min (at l k) (at n k)) k h in
    let q = p k h in
    let o = lengths-pos g k h in
    record { lo = omega arith; hi = omega arith; less = omega arith }

module _ {la lb limits r : List ℕ} {ma mb mo mw : ℕ} (t : Divides la lb limits r ma mb mo mw) {ca cb : List ℕ}
    (ea : ca ≡ cut_to limits la) (eb : cb ≡ cut_to limits lb) where
  left : (k : ℕ) → k < 4 → Cut (at limits k) (at la k) (at ca k)
  left = cut_at limits la ea t.positive t.left

  right : (k : ℕ) → k < 4 → Cut (at limits k) (at lb k) (at cb k)
  right = cut_at limits lb eb t.positive t.right

  shape_at : (k : ℕ) → k < 4 → at r k ≡ cond (eqb (at cb k) 1) (at ca k) (at limits k)
  unfolding quotient_shape
  shape_at k h =
      ap (λ (x : List ℕ). at x k) (t.shape ∙ ap (λ (x : List ℕ). quotient_shape limits x (cut_to limits lb)) (sym ea) ∙ ap (quotient_shape limits ca) (sym eb))
      ∙ at-four (λ k. cond (eqb (at cb k) 1) (at ca k) (at limits k)) k h

  over-left : (k : ℕ) → k < 4 → at ca k ≤ at r k
  over-left k h = rw (shape_at k h) (of-both (λ x. at ca k ≤ x) (eqb (at cb k) 1) (le_refl _) (left k h).hi)

  over-right : (k : ℕ) → k < 4 → at cb k ≤ at r k
  over-right k h =
      decide (eqb (at cb k) 1)
      (λ e. let o : at cb k ≡ 1 = eqb-true (at cb k) 1 e in let p = over-left k h in let q = (left k h).lo in omega arith)
      (λ e. rw (shape_at k h, e) (right k h).hi)

  under-limit : (k : ℕ) → k < 4 → at r k ≤ at limits k
  under-limit k h = rw (shape_at k h) (of-both (λ x. x ≤ at limits k) (eqb (at cb k) 1) (left k h).hi (le_refl _))

  small-left : count ca ≤ count r
  small-left = count_in_lem (inner-by over-left)

  small-right : count cb ≤ count r
  small-right = count_in_lem (inner-by over-right)

  pub left-lengths : Lengths ca
  left-lengths = lengths-by (λ k h. (left k h).lo) (λ k h. let a = (left k h).hi in omega (arith, t.most k h))

  pub right-lengths : Lengths cb
  right-lengths = lengths-by (λ k h. (right k h).lo) (λ k h. let a = (right k h).hi in omega (arith, t.most k h))

  shape-lengths : Lengths r
  shape-lengths = lengths-by (λ k h. let a = (left k h).lo in omega (arith, over-left k h)) (λ k h. omega (arith, under-limit k h, t.most k h))

  pub into-two : Two la ca lb cb mo ma mb mw
  into-two = record {
    left = t.left;
    right = t.right;
    cut_a = left-lengths;
    cut_b = right-lengths;
    in_a = inner-by (λ k h. (left k h).less);
    in_b = inner-by (λ k h. (right k h).less);
    full_a = omega (arith, t.full_a);
    full_b = omega (arith, t.full_b);
    small_a = omega (arith, t.out, small-left);
    small_b = omega (arith, t.out, t.work, small-right);
  }

  -- a divisor of count 1 leaves the dividend's lengths
  same_shape : count cb ≡ 1 → r ≡ ca
  unfolding quotient_shape cut_to
  same_shape e =
      let o = count-one cb (λ k h. (right k h).lo) e in
      let s : four (at r) ≡ four (at ca) = four_same (at r) (at ca) (λ k h. shape_at k h ∙ (rw (o k h))) in
      let x : r ≡ four (at r) = t.shape ∙ ap (λ (z : List ℕ). four (at z)) (sym t.shape) in
      let y : ca ≡ four (at ca) = ea ∙ ap (λ (z : List ℕ). four (at z)) (sym ea) in
      x ∙ (s ∙ sym y)

  -- the lengths of what is divided
  pub loaded-lengths : (x y : List Float) → (quotient_of limits (block ca x) (block cb y)).lengths ≡ r
  unfolding quotient_of
  loaded-lengths x y =
      decide (eqb (count cb) 1)
      (λ e. rw e (of-both (λ (z : Block). z.lengths ≡ r) (eq (first y) one_f) {x = block ca x}
      (sym (same_shape (eqb-true _ _ e))) (sym (same_shape (eqb-true _ _ e)))))
      (λ e. rw e (sym (t.shape ∙ rw (← ea, ← eb))))

  module _ {na nb : ℕ} (ka : na ≡ count ca) (kb : nb ≡ count cb) where
    pub into-recur : Recurring ca cb r na nb mw mo
    into-recur = record {
      left = left-lengths;
      right = right-lengths;
      result = shape-lengths;
      inner_x = inner-by over-left;
      inner_y = inner-by over-right;
      full_x = ka;
      full_y = kb;
      work = t.work;
      out = t.out;
    }

    pub same_count : nb ≡ 1 → mo ≡ na
    same_count e = t.out ∙ (ap count (same_shape (sym kb ∙ e)) ∙ sym ka)

    -- what lies in the work, divided
    pub loaded-is : (w : List Float) {o : List Float} → length w ≡ mw → o ≡ loaded_quotient ca na cb nb r mo w
        → o ≡ (quotient_of limits (block ca (take na w)) (block cb (part mo (mo + nb) w))).places
    unfolding loaded_quotient
    loaded-is w {o} lw e =
        let x : List Float = take na w in
        let y : List Float = part mo (mo + nb) w in
        let c : Float = get_or w mo nan in
        let k : length x ≡ count ca = length-take-le na w (omega (arith, (recurring-fits into-recur).0)) ∙ ka in
        decide (eqb nb 1)
        (λ h.
        let n : nb ≡ 1 = eqb-true nb 1 h in
        let m : first y ≡ c = part_at mo (mo + nb) w 0 (omega arith) ∙ ap (λ (i : ℕ). get_or w i nan) (add-zero mo) in
        e ∙ rw h (ap (λ (i : ℕ). cond (eq c one_f) x (table i (divided_at c x))) k ∙ constant-is limits (block ca x) (block cb y) c (sym kb ∙ n) m))
        (λ h.
        let n : count cb ≡ 1 → ⊥ = λ z. eqb-false nb 1 h (kb ∙ z) in
        let s : r ≡ quotient_shape limits ca cb = t.shape ∙ rw (← ea, ← eb) in
        e ∙ rw h (recurred-is limits r (block ca x) (block cb y) n s))

    module _ (a b w : List Float) (h : Holds mo (cut_places la ca a) (cut_places lb cb b) w) where
      dividend : block ca (take na w) ≡ cut limits (block la a)
      dividend = ap (block ca) (ap (λ (k : ℕ). take k w) (ka ∙ sym (length-table _ (count ca))) ∙ h.front) ∙ cut-is limits la a ea

      divisor : block cb (part mo (mo + nb) w) ≡ cut limits (block lb b)
      divisor =
          let e : mo + nb - mo ≡ length (cut_places lb cb b) = omega (arith, kb, length-table (λ k. read_at (block lb b) (index cb k)) (count cb)) in
          ap (block cb) (ap (λ (k : ℕ). take k (drop mo w)) e ∙ h.back) ∙ cut-is limits lb b eb

      pub into_loaded : {o : List Float} → length w ≡ mw → o ≡ loaded_quotient ca na cb nb r mo w → o ≡ (divided limits (block la a) (block lb b)).places
      unfolding divided
      into_loaded lw e = loaded-is w lw e ∙ rw (dividend, divisor)

-- the true lengths are the announced ones
pub into-lengths : {la lb limits r : List ℕ} {ma mb mo mw : ℕ} → Divides la lb limits r ma mb mo mw → (a b : List Float)
    → (divided limits (block la a) (block lb b)).lengths ≡ r
unfolding divided cut
into-lengths {la} {lb} {limits} t a b = loaded-lengths t refl refl (cut limits (block la a)).places (cut limits (block lb b)).places
