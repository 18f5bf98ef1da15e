-- Rows that are shifted up by s, and the loop that goes from row to row.
use Rattle.std.specs.Prelude.{ℕ, ◌+◌, ◌-◌, ◌*◌, ◌/◌, ◌%◌, ◌≤◌, ◌<◌, List, ◌++◌, true, ◌≡◌, refl, ltb, length, get_or, take, drop, Float}
use Rattle.std.proofs.Common.{sym, ap, subst, ◌∙◌, arith, mul-le-mul_right, get_or-take, drop_at, drop-drop, ltb-true, ltb-false, lt-ltb, le-ltb}
use Rattle.std.proofs.Math.Arith.{digits_div, digits_mod}
use Rattle.std.specs.Float.{nan, binary64}
use Rattle.std.specs.Float.Ieee.{mul}
use borrow.Rule.Slice.PartMut.{put_mid}
use Rattle.lists.specs.Test.{decide}
use Rattle.lists.specs.Table.{table, table_same, length-table, Filled, filled_none}
use Rattle.model.specs.Refusals.{zero_f, zeros}
use Rattle.lists.specs.Fill.{filled_row, filled-all}
use Rattle.product_linear.specs.Rows.{raised_row, raised_flat, Rows}

-- ---- one row

pub row-start : (m : Float) (s : ℕ) (a d : List Float) {z : List Float} {k : ℕ} → z ≡ zeros k → k ≡ s → s ≤ length d
    → Filled s (raised_row m s a) (z ++ drop s d) (z ++ drop s d)
row-start m s a d {z} {k} e f h =
    let l : length z ≡ s = ap length e ∙ (length-table (λ j. zero_f) k ∙ f) in
    let t : z ≡ table s (raised_row m s a) = e ∙ (ap zeros f ∙ table_same (λ j. zero_f) (raised_row m s a) s (λ j g. simp (lt-ltb _ _ g))) in
    let q : drop s (z ++ drop s d) ≡ drop s d = drop_at z (drop s d) s l in
    record { len = refl; is = ap (λ (y : List Float). y ++ drop s d) t ∙ ap (λ (y : List Float). table s (raised_row m s a) ++ y) (sym q) }

pub row_more : (m : Float) (s : ℕ) (a : List Float) (k : ℕ) → s ≤ k → mul binary64 (get_or a (k - s) nan) m ≡ raised_row m s a k
row_more m s a k h = simp (le-ltb _ _ h)

-- ---- row after row

-- the loop has come to the row `turns`
pub record Along (width step from at : ℕ) : Type 0 where
  pub turns : ℕ
  pub is_from : from ≡ turns * width
  pub is_at : at ≡ turns * step

pub along-first : {width step : ℕ} → Along width step 0 0
along-first = record { turns = 0; is_from = omega arith; is_at = omega arith }

pub along-next : {width step from at : ℕ} → Along width step from at → Along width step (from + width) (at + step)
along-next {width} {step} a =
    record {
      turns = a.turns + 1;
      is_from = ap (λ (x : ℕ). x + width) a.is_from
          ∙ omega arith;
      is_at = ap (λ (x : ℕ). x + step) a.is_at ∙ omega arith;
    }

less-of : (x y s : ℕ) → x * s < y * s → x < y
less-of x y s g = decide (ltb x y) (λ e. ltb-true x y e) (λ e. absurd (omega (arith, g, mul-le-mul_right s (ltb-false x y e))))

module _ {s width step ma mt : ℕ} (q : Rows s width step ma mt) {from at' : ℕ} (a : Along width step from at') where
  -- the row lies in both buffers
  pub row_fits : at' < mt → (from + width ≤ ma) × (at' + step ≤ mt)
  row_fits h =
      let l = less-of a.turns q.turns step (omega (arith, a.is_at, q.full, h)) in
      let x : (a.turns + 1) * width ≤ q.turns * width = mul-le-mul_right width (omega arith) in
      let y : (a.turns + 1) * step ≤ q.turns * step = mul-le-mul_right step (omega arith) in
      (omega (arith, x, a.is_from, q.room), omega (arith, y, a.is_at, q.full))

  -- what was written to it
  pub row_is : (m : Float) (xs : List Float) {row o : List Float} {z k : ℕ} → row ≡ take z (drop from xs) → z ≡ width
      → o ≡ table k (raised_row m s row) → k ≡ step
      → o ≡ table step (λ j. raised_flat m s width step xs (at' + j))
  row_is m xs {row} {o} {z} er ez eo ek =
      eo ∙ (ap (λ (x : ℕ). table x (raised_row m s row)) ek ∙ table_same (raised_row m s row) (λ j. raised_flat m s width step xs (at' + j)) step (λ j g.
      let d : (at' + j) / step ≡ a.turns = ap (λ (x : ℕ). (x + j) / step) a.is_at ∙ digits_div a.turns g in
      let r : (at' + j) % step ≡ j = ap (λ (x : ℕ). (x + j) % step) a.is_at ∙ digits_mod a.turns g in
      let f : from ≡ (at' + j) / step * width = a.is_from ∙ ap (λ (x : ℕ). x * width) (sym d) in
      decide (ltb j s)
      (λ e. let e' : ltb ((at' + j) % step) s ≡ true = ap (λ (x : ℕ). ltb x s) r ∙ e in simp (e, e'))
      (λ e.
      let b : j - s < z = omega (arith, ltb-false j s e, q.most, ez, g) in
      let y : get_or row (j - s) nan ≡ get_or (drop from xs) (j - s) nan =
      ap (λ (l : List Float). get_or l (j - s) nan) er ∙ get_or-take z (drop from xs) (j - s) nan b in
      rw (r, e) (ap (λ (x : Float). mul binary64 x m) (y ∙ ap (λ (x : ℕ). get_or (drop x xs) (j - s) nan) f)))))

-- one row more
pub rows_more : (w q : ℕ) {at' : ℕ} {f : ℕ → Float} {d out row : List Float} → Filled at' f d out
    → row ≡ table w (λ k. f (at' + k)) → at' + w ≤ length d → q ≡ w → Filled (at' + w) f d (put_mid at' q out row)
rows_more w q {at'} {f} {d} {out} {row} e r h eq =
    let k : drop q (drop at' out) ≡ drop (at' + w) out = drop-drop q at' out ∙ ap (λ (j : ℕ). drop (at' + j) out) eq in
    rw k (filled_row w e r h)

-- ---- rows of w places, counted

pub turn-none : (w : ℕ) {f : ℕ → Float} {d : List Float} → Filled (0 * w) f d d
turn-none w {f} {d} = subst (λ (n : ℕ). Filled n f d d) (omega arith) filled_none

-- the row r of n lies before their end
pub turn-below : (w r n : ℕ) → r < n → r * w + w ≤ n * w
turn-below w r n h = let x : (r + 1) * w ≤ n * w = mul-le-mul_right w (omega arith) in omega (arith, x)

pub turn-more : (w q r : ℕ) {f : ℕ → Float} {d out row : List Float} → Filled (r * w) f d out
    → row ≡ table w (λ k. f (r * w + k)) → r * w + w ≤ length d → q ≡ w → Filled ((r + 1) * w) f d (put_mid (r * w) q out row)
turn-more w q r {f} {d} {out} {row} e v h eq =
    subst (λ (n : ℕ). Filled n f d (put_mid (r * w) q out row)) (omega arith) (rows_more w q e v h eq)

-- all n of them
pub turn-all : (w r n : ℕ) {f : ℕ → Float} {d out : List Float} → Filled (r * w) f d out → r ≡ n → n * w ≡ length d → out ≡ table (length d) f
turn-all w r n {d = d} e p l =
    let h : r * w ≡ length d = ap (λ (x : ℕ). x * w) p ∙ l in filled-all e (omega (arith, h)) (omega (arith, h))
