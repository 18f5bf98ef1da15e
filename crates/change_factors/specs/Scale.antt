-- `derivative` and `taylor_expansion_of_coeff`: the rows from n on, each times its factor.
use Rattle.std.specs.Prelude.{ℕ, ◌+◌, ◌-◌, ◌*◌, ◌/◌, ◌%◌, ◌≤◌, ◌<◌, List, ◌++◌, Bool, true, false, cond, ◌≡◌, refl, T, ltb, eqb, pos, take, Float}
use Rattle.std.proofs.Common.{sym, ◌∙◌, arith, div-add-mod', div-lt_iff_lt-mul, mod-lt, mul-le-mul_right, le→leb}
use Rattle.std.proofs.Common.{length-drop, length-append, get_or-drop, length-take-le, ltb-true, ltb-false, ne_eqb}
use Rattle.std.proofs.Math.Path.{ap}
use Rattle.std.proofs.Math.Arith.{digits_div, digits_mod}
use Rattle.std.proofs.Math.ListN.{length, get_or, drop, length-take, get_or-append}
use Rattle.std.proofs.Math.Seq.{get_or-take, get_or-append-add}
use Rattle.std.specs.Float.Ieee.{nan, mul, div, in_float}
use Rattle.std.specs.Float.{binary64}
use borrow.Rule.Slice.PartMut.{put_mid}
use Rattle.lists.specs.Test.{decide}
use Rattle.lists.specs.Table.{table, table_same, table_at, table-all, table-take, length-table}
use Rattle.lists.specs.Walk.{walk, Walked, walked_end}
use Rattle.model.specs.Poly.{Poly}
use Rattle.model.specs.Readings.{one_f}
use Rattle.model.specs.Constructed.{whole_f}
use Rattle.model.specs.Shifts.{derivative_poly, expansion_poly}
use Rattle.change_factors.specs.Stripes.{Stripes, Striped, Scaling}

abbrev pub factorial_f : ℕ → Float
factorial_f n = walk (λ i acc. mul binary64 acc (whole_f i)) n 1 one_f

abbrev pub start_f : Bool → ℕ → Float
start_f plain n = cond plain one_f (factorial_f n)

-- times the quotient of the row j
abbrev pub next_f : ℕ → ℕ → Float → Float
next_f n j acc = mul binary64 acc (div binary64 (whole_f (n + j)) (whole_f j))

abbrev pub factor_f : Float → ℕ → ℕ → Float
factor_f start n k = walk (next_f n) k 1 start

abbrev pub scaled_by : Bool → Float → Float → Float
scaled_by plain factor x = cond plain x (mul binary64 x factor)

-- the place p of the result, in a part of `step` places, from a part of `width`
abbrev pub stripe_at : Bool → Float → ℕ → ℕ → ℕ → List Float → ℕ → Float
stripe_at plain factor width step skip a p = scaled_by plain factor (get_or a (p / step * width + (skip + p % step)) nan)

abbrev pub row_by : Bool → Float → ℕ → ℕ → Float → Float
row_by plain start n k x = cond (eqb k 0) (scaled_by plain start x) (mul binary64 x (factor_f start n k))

abbrev pub scaled_flat : Bool → Float → ℕ → ℕ → ℕ → ℕ → List Float → ℕ → Float
scaled_flat plain start n s width step a p = row_by plain start n (p % step / s) (get_or a (p / step * width + (n * s + p % step)) nan)

abbrev pub scaled_poly : Bool → ℕ → ℕ → Poly → Poly
scaled_poly plain v n p = cond plain (expansion_poly v n p) (derivative_poly v n p)

-- a small whole number is a float
pub whole-fits : (n : ℕ) → n ≤ 1024 → T (in_float binary64 (pos n))
unfolding in_float
whole-fits n h = le→leb n 9007199254740992 (omega arith)

-- ---- one row

pub put_plain_lem : {plain : Bool} (factor : Float) (k : ℕ) (a : List Float) {o : List Float} → plain ≡ true → k ≤ length a
    → o ≡ take k a → o ≡ table k (λ i. scaled_by plain factor (get_or a i nan))
put_plain_lem factor k a e h eo = eo ∙ (sym (table-take nan a k h) ∙ table_same _ _ k (λ i l. rw e))

pub put-scaled : {plain : Bool} (factor : Float) (k : ℕ) (a : List Float) {o : List Float} → plain ≡ false
    → o ≡ table k (λ i. mul binary64 (get_or a i nan) factor)
    → o ≡ table k (λ i. scaled_by plain factor (get_or a i nan))
put-scaled factor k a e eo = eo ∙ table_same _ _ k (λ i l. rw e)

-- ---- one row of every part

-- the loop has come to the part `turns`
pub record RowAlong (width step skip first from at' : ℕ) : Type 0 where
  pub turns : ℕ
  pub is_from : from ≡ turns * width + (skip + first)
  pub is_at : at' ≡ turns * step + first

pub row_first : {width step skip first : ℕ} → RowAlong width step skip first (skip + first) first
row_first = record { turns = 0; is_from = omega arith; is_at = omega arith }

pub row_next : {width step skip first from at' : ℕ} → RowAlong width step skip first from at' → RowAlong width step skip first (from + width) (at' + step)
row_next {width} {step} a =
    record { turns = a.turns + 1; is_from = ap (λ (x : ℕ). x + width) a.is_from ∙ omega arith; is_at = ap (λ (x : ℕ). x + step) a.is_at ∙ omega arith }

less-of : (x y s : ℕ) → x * s < y * s → x < y
less-of x y s g = decide (ltb x y) (λ e. ltb-true x y e) (λ e. absurd (omega (arith, g, mul-le-mul_right s (ltb-false x y e))))

-- the row of the first `turns` parts is written
pub record Striping (first s step turns : ℕ) (g : ℕ → Float) (d out : List Float) : Type 0 where
  pub len : length out ≡ length d
  pub new : (p : ℕ) → p < length d → p / step < turns → first ≤ p % step → p % step < first + s → get_or out p nan ≡ g p
  pub old : (p : ℕ) → p < length d → p % step < first → get_or out p nan ≡ get_or d p nan

pub stripe-none : {first s step : ℕ} {g : ℕ → Float} {d : List Float} → Striping first s step 0 g d d
stripe-none = record { len = refl; new = λ p l z. absurd (omega arith); old = λ p l h. refl }

-- a list with s places from `at` on replaced
module _ (at' s : ℕ) (out row : List Float) (fit : at' + s ≤ length out) (long : length row ≡ s) where
  put : List Float
  put = take at' out ++ (row ++ drop s (drop at' out))

  front : length (take at' out) ≡ at'
  front = length-take-le at' out (omega arith)

  put-len : length put ≡ length out
  unfolding put
  put-len = simp (length-append, length-take, length-drop) (omega (arith, long))

  put-before : (p : ℕ) → p < at' → get_or put p nan ≡ get_or out p nan
  unfolding put
  put-before p h = get_or-append (take at' out) (row ++ drop s (drop at' out)) nan p (omega (arith, front)) ∙ get_or-take at' out p nan h

  after : (p : ℕ) → at' ≤ p → get_or put p nan ≡ get_or (row ++ drop s (drop at' out)) (p - at') nan
  unfolding put
  after p h =
      let e : p ≡ length (take at' out) + (p - at') = omega (arith, front) in
      ap (λ (x : ℕ). get_or put x nan) e ∙ get_or-append-add (take at' out) (row ++ drop s (drop at' out)) (p - at') nan

  put-here : (p : ℕ) → at' ≤ p → p < at' + s → get_or put p nan ≡ get_or row (p - at') nan
  put-here p h k = after p h ∙ get_or-append row (drop s (drop at' out)) nan (p - at') (omega (arith, long))

  put-after : (p : ℕ) → at' + s ≤ p → get_or put p nan ≡ get_or out p nan
  put-after p h =
      let e : p - at' ≡ length row + (p - at' - s) = omega (arith, long) in
      let f : at' + (s + (p - at' - s)) ≡ p = omega arith in
      after p (omega arith)
      ∙ (ap (λ (x : ℕ). get_or (row ++ drop s (drop at' out)) x nan) e
      ∙ (get_or-append-add row (drop s (drop at' out)) (p - at' - s) nan
      ∙ (get_or-drop s (drop at' out) (p - at' - s) nan ∙ (get_or-drop at' out (s + (p - at' - s)) nan ∙ ap (λ (x : ℕ). get_or out x nan) f))))

module _ {first s step turns at' : ℕ} {g : ℕ → Float} {d out row : List Float} (w : Striping first s step turns g d out)
    (ea : at' ≡ turns * step + first) (fit : first + s ≤ step) (er : row ≡ table s (λ j. g (at' + j)))
    (low : at' + s ≤ length d) where
  room : at' + s ≤ length out
  room = omega (arith, w.len)

  long : length row ≡ s
  long = ap length er ∙ length-table (λ j. g (at' + j)) s

  stripe-row : Striping first s step (turns + 1) g d (put at' s out row room long)
  stripe-row =
      record {
        len = put-len at' s out row room long ∙ w.len;
        new = λ p l t a b.
            let e = div-add-mod' p step in
            decide (ltb p at')
            (λ x.
            let u = ltb-true p at' x in
            put-before at' s out row room long p u ∙ w.new p l (less-of (p / step) turns step (omega (arith, ea))) a b)
            (λ x.
            let u = ltb-false p at' x in
            let m : p / step * step ≤ turns * step = mul-le-mul_right step (omega arith) in
            let k : p < at' + s = omega (arith, ea) in
            let q : at' + (p - at') ≡ p = omega arith in
            put-here at' s out row room long p u k
            ∙ (ap (λ (z : List Float). get_or z (p - at') nan) er ∙ (table_at nan (λ j. g (at' + j)) s (p - at') (omega arith) ∙ ap g q)));
        old = λ p l a.
            let e = div-add-mod' p step in
            decide (ltb p at')
            (λ x. put-before at' s out row room long p (ltb-true p at' x) ∙ w.old p l a)
            (λ x.
            let u = ltb-false p at' x in
            decide (ltb turns (p / step))
            (λ y.
            let v = ltb-true turns (p / step) y in
            let m : (turns + 1) * step ≤ p / step * step = mul-le-mul_right step (omega arith) in
            put-after at' s out row room long p (omega (arith, ea, m)) ∙ w.old p l a)
            (λ y.
            let m : p / step * step ≤ turns * step = mul-le-mul_right step (ltb-false turns (p / step) y) in
            absurd (omega (arith, ea, m))));
      }

  pub stripe-more : (q : ℕ) → q ≡ s → Striping first s step (turns + 1) g d (put_mid at' q out row)
  unfolding put
  stripe-more q e = rw e stripe-row

-- what was written to the row of one part
pub stripe-is : {width step skip first from at' : ℕ} (s : ℕ) (a' : RowAlong width step skip first from at')
    → first + s ≤ step → (plain : Bool) (factor : Float) (a : List Float) {row o : List Float} (z k : ℕ)
    → row ≡ take z (drop from a) → z ≡ s → o ≡ table k (λ j. scaled_by plain factor (get_or row j nan)) → k ≡ s
    → o ≡ table s (λ j. stripe_at plain factor width step skip a (at' + j))
stripe-is {width} {step} {skip} {first} {from} {at'} s a' fit plain factor a {row} z k er ez eo ek =
    eo ∙ (ap (λ (x : ℕ). table x (λ j. scaled_by plain factor (get_or row j nan))) ek ∙ table_same _ _ s (λ j h.
    let t = a'.turns in
    let low : first + j < step = omega arith in
    let e : at' + j ≡ t * step + (first + j) = omega (arith, a'.is_at) in
    let dv : (at' + j) / step ≡ t = ap (λ (x : ℕ). x / step) e ∙ digits_div t low in
    let md : (at' + j) % step ≡ first + j = ap (λ (x : ℕ). x % step) e ∙ digits_mod t low in
    let f : from + j ≡ t * width + (skip + (first + j)) = omega (arith, a'.is_from) in
    let q : from + j ≡ (at' + j) / step * width + (skip + (at' + j) % step) = rw (dv, md) f in
    let y : get_or row j nan ≡ get_or a (from + j) nan =
    ap (λ (l : List Float). get_or l j nan) er
    ∙ (get_or-take z (drop from a) j nan (omega arith) ∙ get_or-drop from a j nan) in
    ap (scaled_by plain factor) (y ∙ ap (λ (x : ℕ). get_or a x nan) q)))

pub stripe_end : {first s step turns m : ℕ} {g : ℕ → Float} {d out : List Float} → Striping first s step turns g d out
    → length d ≡ m * step → m ≤ turns → 0 < step → Striped first s step g d out
stripe_end {step = step} {turns = turns} {m = m} w e h z =
    record {
      len = w.len;
      new = λ p l a b. w.new p l (let q : p / step < m = (div-lt_iff_lt-mul z).1 (omega arith) in omega arith) a b;
      old = w.old;
    }

-- ---- row by row

-- the places below `at` of every part are written
pub record Rowed (step at' : ℕ) (f : ℕ → Float) (mt : ℕ) (out : List Float) : Type 0 where
  pub len : length out ≡ mt
  pub is : (p : ℕ) → p < mt → p % step < at' → get_or out p nan ≡ f p

module _ (plain : Bool) (start : Float) (n s width step : ℕ) (a : List Float) where
  pub rowed-first : {skip : ℕ} {d out : List Float} → skip ≡ n * s
      → Striped 0 s step (stripe_at plain start width step skip a) d out
      → Rowed step s (scaled_flat plain start n s width step a) (length d) out
  rowed-first {skip} e w =
      record {
        len = w.len;
        is = λ p l h.
            let y : 0 * s + p % step ≡ p % step = omega arith in
            let z : p % step / s ≡ 0 = ap (λ (q : ℕ). q / s) (sym y) ∙ digits_div 0 h in
            w.new p l (omega arith) (omega arith) ∙ (rw (z, e));
      }

  pub rowed-more : {skip at' k mt : ℕ} {factor : Float} {to out : List Float} → skip ≡ n * s → at' ≡ k * s → 0 < k
      → Walked (next_f n) 1 (k + 1) start factor → Rowed step at' (scaled_flat plain start n s width step a) mt to
      → Striped at' s step (stripe_at false factor width step skip a) to out → Rowed step (at' + s) (scaled_flat plain start n s width step a) mt out
  rowed-more {skip} {at'} {k} {mt} {factor} e ea pk wk r w =
      record {
        len = w.len ∙ r.len;
        is = λ p l h.
            decide (ltb (p % step) at')
            (λ x. let u = ltb-true (p % step) at' x in w.old p (omega (arith, r.len)) u ∙ r.is p l u)
            (λ x.
            let u = ltb-false (p % step) at' x in
            let i : p % step ≡ k * s + (p % step - k * s) = omega (arith, ea) in
            let z : p % step / s ≡ k = ap (λ (q : ℕ). q / s) i ∙ digits_div k (omega (arith, ea)) in
            let no : k ≡ 0 → ⊥ = λ y. omega arith in
            let v : factor ≡ factor_f start n k = walked_end k wk (omega arith) in
            w.new p (omega (arith, r.len)) u h ∙ (rw (z, e, v, ne_eqb k 0 no)));
      }

pub rowed_end : {step at' mt : ℕ} {f : ℕ → Float} {out : List Float} → Rowed step at' f mt out → step ≤ at' → 0 < step → out ≡ table mt f
rowed_end {step} {at'} {mt} {f} {out} r h z =
    sym (table-all nan out) ∙ (ap (λ (x : ℕ). table x (λ k. get_or out k nan)) r.len
    ∙ table_same _ f mt (λ p l. r.is p l (let q = mod-lt p z in omega arith)))

-- ---- what the loops ask

pub record StripeLoop (first s step width skip : ℕ) (g : ℕ → Float) (d out : List Float) (from at' : ℕ) : Type 0 where
  pub along : RowAlong width step skip first from at'
  pub done : Striping first s step along.turns g d out

pub loop-first : {first s step width skip : ℕ} {g : ℕ → Float} {d : List Float} → StripeLoop first s step width skip g d d (skip + first) first
unfolding row_first
loop-first = record { along = row_first; done = stripe-none }

pub loop-next : {first s step width skip from at' : ℕ} {g : ℕ → Float} {d out row : List Float} (q : ℕ)
    → StripeLoop first s step width skip g d out from at' → first + s ≤ step → row ≡ table s (λ j. g (at' + j))
    → at' + s ≤ length d → q ≡ s
    → StripeLoop first s step width skip g d (put_mid at' q out row) (from + width) (at' + step)
unfolding row_next
loop-next q w f r l e = record { along = row_next w.along; done = stripe-more w.done w.along.is_at f r l q e }

module _ {s width step skip first ma mt from at' : ℕ} (q : Stripes s width step skip first ma mt) (a : RowAlong width step skip first from at') where
  pub stripe-fits : at' < mt → ((from + s ≤ ma) × (at' + s ≤ mt)) × ((from + width ≤ ma + ma) × (at' + step ≤ mt + mt))
  stripe-fits h =
      let l = less-of a.turns q.turns step (omega (arith, a.is_at, q.full, h)) in
      let x : (a.turns + 1) * width ≤ q.turns * width = mul-le-mul_right width (omega arith) in
      let y : (a.turns + 1) * step ≤ q.turns * step = mul-le-mul_right step (omega arith) in (
        (omega (arith, x, a.is_from, q.room, q.past), omega (arith, y, a.is_at, q.full, q.row)),
        (omega (arith, x, a.is_from, q.room, q.past), omega (arith, y, a.is_at, q.full, q.row)),
      )

  pub stripe-turns : mt ≤ at' → q.turns ≤ a.turns
  stripe-turns h =
      let l = less-of q.turns (a.turns + 1) step (omega (arith, a.is_at, q.full, q.row, q.pos, h)) in
      omega arith

module _ {n s width step ma mt : ℕ} (q : Scaling n s width step ma mt) where
  pub scaling-below : (k : ℕ) {at' : ℕ} → at' ≡ k * s → at' < step → k < q.rows
  scaling-below k e h = less-of k q.rows s (omega (arith, e, q.is_step))

  pub scaling-small : (n * s ≤ 1073741824) × (step ≤ 1073741824)
  scaling-small =
      let x : n * s ≤ 64 * s = mul-le-mul_right s (omega (arith, q.small)) in
      let y : q.rows * s ≤ 64 * s = mul-le-mul_right s (omega (arith, q.small)) in
      (omega (arith, x, q.low), omega (arith, y, q.low, q.is_step))

  pub scaling-pos : 0 < step
  scaling-pos = let x : 1 * s ≤ q.rows * s = mul-le-mul_right s q.some in omega (arith, x, q.pos, q.is_step)

  pub scaling_stripes : (k : ℕ) {at' mo : ℕ} → at' ≡ k * s → at' < step → mo ≡ mt → Stripes s width step (n * s) at' ma mo
  scaling_stripes k e h em =
      let l = scaling-below k e h in
      let x : (k + 1) * s ≤ q.rows * s = mul-le-mul_right s (omega arith) in
      record {
        turns = q.turns;
        full = em ∙ q.full;
        room = q.room;
        row = omega (arith, x, e, q.is_step);
        past = omega (arith, x, e, q.is_width);
        pos = q.pos;
      }
