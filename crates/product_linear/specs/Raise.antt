-- A block shifted up by one in a variable, in contiguous rows: all the places that share the numbers of the variables
-- before v.
use Rattle.std.specs.Prelude.{ℕ, zero, suc, ◌+◌, ◌-◌, ◌*◌, ◌/◌, ◌%◌, ◌≤◌, ◌<◌, List, [], ◌∷◌, false, cond, ◌≡◌, refl, ltb, eqb, length, drop, set, Float}
use Rattle.std.proofs.Common.{sym, ◌∙◌, div-add-mod', mod-lt, div-lt_iff_lt-mul, mul-le-mul_right, add-mul, mul-one, one-mul, mul_assoc, lit<}
use Rattle.std.proofs.Math.Path.{ap}
use native.Mathlib.Omega.{arith}
use Rattle.std.proofs.Math.Arith.{digits_lt, digits_div, digits_mod}
use Rattle.std.proofs.Math.ListN.{get_or}
use Rattle.std.proofs.Math.Seq.{get_or-drop}
use Rattle.std.specs.Float.Ieee.{nan, add, mul, binary64}
use borrow.Author.Tests.{ltb-true, ltb-false, eqb-true, eqb-false, eq-eqb, ne_eqb}
use Rattle.lists.specs.Test.{decide}
use Rattle.lists.specs.Four.{at, long, at_same, at_other}
use Rattle.lists.specs.Table.{table, table_same}
use Rattle.model.specs.Header.{count, span}
use Rattle.model.specs.Places.{strides, place, index, inside}
use Rattle.model.specs.Refusals.{zero_f}
use Rattle.model.specs.Poly.{Block, block, read_at}
use Rattle.model.specs.Product.{raised_at}
use Rattle.shape_words.specs.Lengths.{Lengths}
use Rattle.shape_words.specs.Lengths.{Inside, count-is, count-pos, count_most, lengths-pos, inside-at, inside-four, inside_is, is_inside_lem}
use Rattle.shape_words.specs.Places.{horner, place-index, index-inside}
use Rattle.product_linear.specs.Rows.{raised_flat, lined_flat, Rows}

-- under a linear factor, c and m, at an index of the result: what is shifted there added to +0.0, then c times the
-- block, as far as it reaches
abbrev pub lined_at : ℕ → Float → Float → Block → List ℕ → Float
lined_at v c m b i =
    cond (inside b.lengths i) (add binary64 (add binary64 zero_f (raised_at v m b i)) (mul binary64 c (read_at b i))) (add binary64 zero_f (raised_at v m b i))

-- r the lengths n with one row more in v, or as many
pub record Raising (n : List ℕ) (v : ℕ) (r : List ℕ) (ma mt : ℕ) : Type 0 where
  pub var : v < 4
  pub from : Lengths n
  pub to : Lengths r
  pub other : (w : ℕ) → w < 4 → (w ≡ v → ⊥) → at r w ≡ at n w
  pub one : at r v ≤ at n v + 1
  pub room : count n ≤ ma
  pub full : mt ≡ count r

-- ---- a place in three parts: the variables before v, v, those after it

outer : List ℕ → List ℕ → ℕ → ℕ
outer n i zero = 0
outer n i (suc zero) = at i 0
outer n i (suc (suc zero)) = at i 0 * at n 1 + at i 1
outer n i (suc (suc (suc v))) = (at i 0 * at n 1 + at i 1) * at n 2 + at i 2

inner : List ℕ → List ℕ → ℕ → ℕ
inner n i zero = (at i 1 * at n 2 + at i 2) * at n 3 + at i 3
inner n i (suc zero) = at i 2 * at n 3 + at i 3
inner n i (suc (suc zero)) = at i 3
inner n i (suc (suc (suc v))) = 0

-- how many rows
outers : List ℕ → ℕ → ℕ
outers n zero = 1
outers n (suc zero) = at n 0
outers n (suc (suc zero)) = at n 0 * at n 1
outers n (suc (suc (suc v))) = at n 0 * at n 1 * at n 2

far : {v : ℕ} → suc (suc (suc (suc v))) < 4 → ⊥
far h = omega arith

split : (n i : List ℕ) (v : ℕ) → v < 4 → place n i ≡ (outer n i v * at n v + at i v) * at (strides n) v + inner n i v
unfolding strides span outer inner
split n i zero h = horner n i ∙ simp (add-mul, mul-one, mul_assoc) (omega arith)
split n i (suc zero) h = horner n i ∙ simp (add-mul, mul-one, mul_assoc) (omega arith)
split n i (suc (suc zero)) h = horner n i ∙ simp (add-mul, mul-one, mul_assoc) (omega arith)
split n i (suc (suc (suc zero))) h = horner n i ∙ simp (add-mul, mul-one, mul_assoc) (omega arith)
split n i (suc (suc (suc (suc v)))) h = absurd (far h)

inner-lt : (n i : List ℕ) (v : ℕ) → v < 4 → Inside n i → inner n i v < at (strides n) v
unfolding strides span inner
inner-lt n i zero h t = let e : at n 1 * (at n 2 * (at n 3 * 1)) ≡ at n 1 * at n 2 * at n 3 =
    simp (mul-one, mul_assoc) in
    omega (arith, e, digits_lt (digits_lt t.i1 t.i2) t.i3)
inner-lt n i (suc zero) h t = omega (arith, digits_lt t.i2 t.i3)
inner-lt n i (suc (suc zero)) h t = omega (arith, t.i3)
inner-lt n i (suc (suc (suc zero))) h t = omega arith
inner-lt n i (suc (suc (suc (suc v)))) h t = absurd (far h)

count_outers : (n : List ℕ) (v : ℕ) → v < 4 → count n ≡ outers n v * (at n v * at (strides n) v)
unfolding strides span outers
count_outers n zero h = count-is n ∙ simp (one-mul, mul-one)
count_outers n (suc zero) h = count-is n ∙ simp mul-one
count_outers n (suc (suc zero)) h = count-is n ∙ simp (mul-one, mul_assoc)
count_outers n (suc (suc (suc zero))) h = count-is n ∙ simp (mul-one, mul_assoc)
count_outers n (suc (suc (suc (suc v)))) h = absurd (far h)

abbrev Others : ℕ → List ℕ → List ℕ → Type 0
Others v x y = (w : ℕ) → w < 4 → (w ≡ v → ⊥) → at x w ≡ at y w

one≢ : {a b : ℕ} → a < b → b ≡ a → ⊥
one≢ h e = omega arith

strides-same : (n r : List ℕ) (v : ℕ) → v < 4 → Others v r n → at (strides r) v ≡ at (strides n) v
unfolding strides span
strides-same n r zero h o = rw (o 1 (lit< tt) (one≢ (lit< tt)), o 2 (lit< tt) (one≢ (lit< tt)), o 3 (lit< tt) (one≢ (lit< tt)))
strides-same n r (suc zero) h o = rw (o 2 (lit< tt) (one≢ (lit< tt)), o 3 (lit< tt) (one≢ (lit< tt)))
strides-same n r (suc (suc zero)) h o = rw (o 3 (lit< tt) (one≢ (lit< tt)))
strides-same n r (suc (suc (suc zero))) h o = refl
strides-same n r (suc (suc (suc (suc v)))) h o = absurd (far h)

two≢ : {a b : ℕ} → a < b → a ≡ b → ⊥
two≢ h e = omega arith

outers-same : (n r : List ℕ) (v : ℕ) → v < 4 → Others v r n → outers r v ≡ outers n v
unfolding outers
outers-same n r zero h o = refl
outers-same n r (suc zero) h o = o 0 (lit< tt) (two≢ (lit< tt))
outers-same n r (suc (suc zero)) h o = rw (o 0 (lit< tt) (two≢ (lit< tt)), o 1 (lit< tt) (two≢ (lit< tt)))
outers-same n r (suc (suc (suc zero))) h o = rw (o 0 (lit< tt) (two≢ (lit< tt)), o 1 (lit< tt) (two≢ (lit< tt)), o 2 (lit< tt) (two≢ (lit< tt)))
outers-same n r (suc (suc (suc (suc v)))) h o = absurd (far h)

outer_same : (n r i j : List ℕ) (v : ℕ) → v < 4 → Others v r n → Others v j i → outer n j v ≡ outer r i v
unfolding outer
outer_same n r i j zero h o p = refl
outer_same n r i j (suc zero) h o p = p 0 (lit< tt) (two≢ (lit< tt))
outer_same n r i j (suc (suc zero)) h o p = rw (p 0 (lit< tt) (two≢ (lit< tt)), p 1 (lit< tt) (two≢ (lit< tt)), o 1 (lit< tt) (two≢ (lit< tt)))
outer_same n r i j (suc (suc (suc zero))) h o p =
    rw (
      p 0 (lit< tt) (two≢ (lit< tt)),
      p 1 (lit< tt) (two≢ (lit< tt)),
      p 2 (lit< tt) (two≢ (lit< tt)),
      o 1 (lit< tt) (two≢ (lit< tt)),
      o 2 (lit< tt) (two≢ (lit< tt)),
    )
outer_same n r i j (suc (suc (suc (suc v)))) h o p = absurd (far h)

inner-same : (n r i j : List ℕ) (v : ℕ) → v < 4 → Others v r n → Others v j i → inner n j v ≡ inner r i v
unfolding inner
inner-same n r i j zero h o p =
    rw (
      p 1 (lit< tt) (one≢ (lit< tt)),
      p 2 (lit< tt) (one≢ (lit< tt)),
      p 3 (lit< tt) (one≢ (lit< tt)),
      o 2 (lit< tt) (one≢ (lit< tt)),
      o 3 (lit< tt) (one≢ (lit< tt)),
    )
inner-same n r i j (suc zero) h o p = rw (p 2 (lit< tt) (one≢ (lit< tt)), p 3 (lit< tt) (one≢ (lit< tt)), o 3 (lit< tt) (one≢ (lit< tt)))
inner-same n r i j (suc (suc zero)) h o p = p 3 (lit< tt) (one≢ (lit< tt))
inner-same n r i j (suc (suc (suc zero))) h o p = refl
inner-same n r i j (suc (suc (suc (suc v)))) h o p = absurd (far h)

-- two ways to write a number with a last digit below s
digits-one : {s a b : ℕ} (x y : ℕ) → a < s → b < s → x * s + a ≡ y * s + b → (x ≡ y) × (a ≡ b)
digits-one {s} x y p q e =
    (sym (digits_div x p) ∙ (ap (λ (z : ℕ). z / s) e ∙ digits_div y q), sym (digits_mod x p) ∙ (ap (λ (z : ℕ). z % s) e ∙ digits_mod y q))

-- ---- the rows of the result

module _ {n : List ℕ} {v : ℕ} {r : List ℕ} {ma mt : ℕ} (t : Raising n v r ma mt) {s width step : ℕ}
    (es : s ≡ at (strides n) v) (ew : width ≡ at n v * s) (ep : step ≡ at r v * s) where
  stride-r : s ≡ at (strides r) v
  stride-r = es ∙ sym (strides-same n r v t.var t.other)

  stride-pos : 0 < s
  stride-pos =
      let g = t.from in
      rw es (omega (arith, inner-lt n (0 ∷ 0 ∷ 0 ∷ 0 ∷ []) v t.var (record { i0 = g.p0; i1 = g.p1; i2 = g.p2; i3 = g.p3 })))

  total-n : count n ≡ outers n v * width
  total-n = count_outers n v t.var ∙ (rw (← es, ew))

  total-r : mt ≡ outers n v * step
  total-r = t.full ∙ (count_outers r v t.var ∙ (rw (← stride-r, outers-same n r v t.var t.other, ep)))

  pub raise_rows_lem : Rows s width step ma mt
  raise_rows_lem =
      let a : 1 * s ≤ at r v * s = mul-le-mul_right s (lengths-pos t.to v t.var) in
      let b : at r v * s ≤ (at n v + 1) * s = mul-le-mul_right s t.one in
      record {
        turns = outers n v;
        full = total-r;
        room = omega (arith, total-n, t.room);
        small = omega (arith, a, ep);
        most = omega (arith, b, ep, ew);
        pos = omega (arith, a, ep, stride-pos);
      }

  -- no step of working out the rows overflows
  pub raise-small : (at n v * s ≤ 16777216) × (at r v * s ≤ 16777216)
  raise-small =
      let some : 0 < outers n v = decide (ltb 0 (outers n v)) (λ e. ltb-true 0 (outers n v) e) (λ e.
      let z : outers n v ≡ 0 = omega (arith, ltb-false 0 (outers n v) e) in
      let y : count n ≡ 0 * width = total-n ∙ ap (λ (x : ℕ). x * width) z in
      absurd (omega (arith, y, count-pos t.from))) in
      let x : 1 * width ≤ outers n v * width = mul-le-mul_right width some in
      let y : 1 * step ≤ outers n v * step = mul-le-mul_right step some in
      (omega (arith, x, total-n, ew, count_most t.from), omega (arith, y, total-r, t.full, ep, count_most t.to))

  module _ (p : ℕ) (h : p < count r) where
    abbrev i : List ℕ
    i = index r p

    abbrev k : ℕ
    k = p % step

    low : Inside r i
    low = index-inside r p t.to h

    k_lt : k < step
    k_lt = mod-lt p raise_rows_lem.pos

    -- the index in three parts
    parts : (outer r i v ≡ p / step) × (at i v ≡ k / s) × (inner r i v ≡ k % s)
    parts =
        let q : k / s < at r v = (div-lt_iff_lt-mul stride-pos).1 (rw (← ep) k_lt) in
        let d : k / s * s + k % s ≡ k = div-add-mod' k s in
        let g : p / step * step + k ≡ p = div-add-mod' p step in
        let c : p / step * step ≡ p / step * at r v * s = ap (λ (x : ℕ). p / step * x) ep ∙ omega arith in
        let e : (outer r i v * at r v + at i v) * s + inner r i v ≡ (p / step * at r v + k / s) * s + k % s =
        ap (λ (x : ℕ). (outer r i v * at r v + at i v) * x + inner r i v) stride-r
        ∙ (sym (split r i v t.var) ∙ (place-index r p ∙ omega (arith, g, d, c))) in
        let u = digits-one (outer r i v * at r v + at i v) (p / step * at r v + k / s) (rw stride-r (inner-lt r i v t.var low)) (mod-lt k stride-pos) e in
        let w = digits-one (outer r i v) (p / step) (inside-at low v t.var) q u.0 in
        (w.0, w.1, u.1)

    -- the number of v
    pub row_of : at i v ≡ k / s
    row_of = parts.1

    some : s ≤ k → 0 < k / s
    some sk =
        decide (ltb 0 (k / s)) (λ e. ltb-true 0 (k / s) e)
        (λ e.
        let z : k / s ≡ 0 = omega (arith, ltb-false 0 (k / s) e) in
        let y : 0 * s + k % s ≡ k = ap (λ (x : ℕ). x * s + k % s) (sym z) ∙ div-add-mod' k s in
        absurd (omega (arith, y, mod-lt k stride-pos, sk)))

    -- where the place was read, past the first s
    taken : s ≤ k → place n (set i v (at i v - 1)) ≡ p / step * width + (k - s)
    taken sk =
        let x : ℕ = k / s - 1 in
        let ex : k / s ≡ x + 1 = omega (arith, some sk) in
        let d : (x + 1) * s + k % s ≡ k = ap (λ (y : ℕ). y * s + k % s) (sym ex) ∙ div-add-mod' k s in
        let iv : at i v ≡ x + 1 = parts.1 ∙ ex in
        let li : v < length i = long i v (omega (arith, iv)) in
        let j : List ℕ = set i v (at i v - 1) in
        let o : Others v j i = λ w p f. at_other i v w (at i v - 1) f in
        let jv : at j v ≡ x = at_same i v (at i v - 1) li ∙ omega (arith, iv) in
        let eo : outer n j v ≡ p / step = outer_same n r i j v t.var t.other o ∙ parts.0 in
        let ei : inner n j v ≡ k % s = inner-same n r i j v t.var t.other o ∙ parts.2 in
        let c : p / step * width ≡ p / step * at n v * s = ap (λ (y : ℕ). p / step * y) ew ∙ omega arith in
        let f : place n j ≡ (p / step * at n v + x) * s + k % s = split n j v t.var ∙ (rw (← es, eo, ei, jv)) in
        f ∙ omega (arith, d, c)

    raise-place : (m : Float) (xs : List Float) → raised_flat m s width step xs p ≡ raised_at v m (block n xs) i
    unfolding raised_at
    raise-place m xs =
        decide (ltb k s)
        (λ e.
        let y : 0 * s + k ≡ k = omega arith in
        let f : at i v ≡ 0 = parts.1 ∙ (ap (λ (q : ℕ). q / s) (sym y) ∙ digits_div 0 (ltb-true k s e)) in
        simp (e, eq-eqb _ _ f))
        (λ e.
        let sk = ltb-false k s e in
        let f : at i v ≡ 0 → ⊥ = λ z. let g = parts.1 in let b = some sk in omega arith in
        let y : get_or (drop (p / step * width) xs) (k - s) nan ≡ read_at (block n xs) (set i v (at i v - 1)) =
        get_or-drop (p / step * width) xs (k - s) nan ∙ ap (λ (q : ℕ). get_or xs q nan) (sym (taken sk)) in
        rw (e, ne_eqb _ _ f) (ap (λ (q : Float). mul binary64 q m) y))

    -- where the row itself reaches
    reached : k < width → Inside n i
    reached kw =
        let q : k / s < at n v = (div-lt_iff_lt-mul stride-pos).1 (rw (← ew) kw) in
        let y : at i v < at n v = omega (arith, parts.1) in
        inside-four (λ w g. decide (eqb w v) (λ e. rw (eqb-true w v e) y) (λ e. rw (← t.other w g (eqb-false w v e)) (inside-at low w g)))

    kept : place n i ≡ p / step * width + k
    kept =
        let o : Others v i i = λ w p f. refl in
        let eo : outer n i v ≡ p / step = outer_same n r i i v t.var t.other o ∙ parts.0 in
        let ei : inner n i v ≡ k % s = inner-same n r i i v t.var t.other o ∙ parts.2 in
        let d : k / s * s + k % s ≡ k = div-add-mod' k s in
        let c : p / step * width ≡ p / step * at n v * s = ap (λ (y : ℕ). p / step * y) ew ∙ omega arith in
        let f : place n i ≡ (p / step * at n v + k / s) * s + k % s = split n i v t.var ∙ (rw (← es, eo, ei, parts.1)) in
        f ∙ omega (arith, d, c)

    past : width ≤ k → inside n i ≡ false
    past wk =
        decide (inside n i)
        (λ e.
        let b : at i v < at n v = inside-at (inside_is n i e) v t.var in
        let g : k / s < at n v = omega (arith, parts.1) in
        let q : k < at n v * s = (div-lt_iff_lt-mul stride-pos).0 g in
        absurd (omega (arith, q, ew, wk)))
        (λ e. e)

    lined-place : (c m : Float) (xs : List Float) → lined_flat c m s width step xs p ≡ lined_at v c m (block n xs) i
    lined-place c m xs =
        let u = raise-place m xs in
        let y : get_or (drop (p / step * width) xs) k nan ≡ read_at (block n xs) i =
        get_or-drop (p / step * width) xs k nan ∙ ap (λ (q : ℕ). get_or xs q nan) (sym kept) in
        decide (ltb k width)
        (λ e. rw (e, is_inside_lem (reached (ltb-true k width e)))
        (ap (λ (z : Float). add binary64 (add binary64 zero_f z)
        (mul binary64 c (get_or (drop (p / step * width) xs) k nan))) u
        ∙ ap (λ (z : Float). add binary64 (add binary64 zero_f (raised_at v m (block n xs) i)) (mul binary64 c z)) y))
        (λ e. rw (e, past (ltb-false k width e)) (ap (λ (z : Float). add binary64 zero_f z) u))

  -- the result reaches as far as the block
  pub lined_rows : at n v ≤ at r v → (s ≤ width) × (width ≤ step)
  lined_rows h =
      let a : 1 * s ≤ at n v * s = mul-le-mul_right s (lengths-pos t.from v t.var) in
      let b : at n v * s ≤ at r v * s = mul-le-mul_right s h in
      (omega (arith, a, ew), omega (arith, b, ew, ep))

  pub lined-is : (c m : Float) (xs : List Float) {o : List Float} → o ≡ table mt (lined_flat c m s width step xs)
      → o ≡ table (count r) (λ k. lined_at v c m (block n xs) (index r k))
  lined-is c m xs e = e ∙ (ap (λ (x : ℕ). table x (lined_flat c m s width step xs)) t.full ∙ table_same _ _ (count r) (λ p h. lined-place p h c m xs))

  pub raise-is : (m : Float) (xs : List Float) {o : List Float} → o ≡ table mt (raised_flat m s width step xs)
      → o ≡ table (count r) (λ k. raised_at v m (block n xs) (index r k))
  raise-is m xs e = e ∙ (ap (λ (x : ℕ). table x (raised_flat m s width step xs)) t.full ∙ table_same _ _ (count r) (λ p h. raise-place p h m xs))
