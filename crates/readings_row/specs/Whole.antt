-- Where no length cuts it, a row of a variable lies in stretches: which places they are.
use Rattle.std.specs.Prelude.{ℕ, suc, ◌+◌, ◌-◌, ◌*◌, ◌/◌, ◌%◌, ◌≤◌, ◌<◌, List, [], ◌∷◌, ◌≡◌, refl, ltb, set, Float}
use Rattle.std.proofs.Common.{sym, subst, ◌∙◌, arith, add-mul, mul_assoc, mul-one, one-mul, zero-mul, zero-add}
use Rattle.std.proofs.Common.{add-zero, mul-le-mul, mul-le-mul_right, suc-mul, le_trans, lit≤, ltb-true, ltb-false}
use Rattle.std.proofs.Math.Path.{ap}
use Rattle.std.proofs.Math.Arith.{digits_lt, digits_div, digits_mod}
use Rattle.std.proofs.Math.ListN.{get_or}
use Rattle.std.specs.Float.{nan}
use Rattle.lists.specs.Test.{decide}
use Rattle.lists.specs.Four.{at, at_other, each}
use Rattle.lists.specs.Table.{table, table_same}
use Rattle.model.specs.Header.{count, span}
use Rattle.model.specs.Places.{strides, place, index}
use Rattle.model.specs.Poly.{block, read_at}
use Rattle.shape_words.specs.Lengths.{Lengths, Inside, lengths-most, count-is, count-pos}
use Rattle.shape_words.specs.Places.{place-lt, index-inside, place-index, horner}
use Rattle.blocks.specs.Same.{Same, same_count}
use Rattle.readings_row.specs.Rows.{Picking, pick-inside}
use Rattle.readings_row.specs.Stretches.{Stretched, stretch_at}

-- k is the place j of the stretch q, and p its place in the block: n places of v, w in a stretch, d the row
record Lies (n w d k p : ℕ) : Type 0 where
  q : ℕ
  j : ℕ
  k_is : k ≡ q * w + j
  low : j < w
  p_is : p ≡ d * w + q * (n * w) + j

-- ---- four lengths b, c, e after the first, and an index x, y, z, t

last-is : (u n d k : ℕ) → k ≡ u → Lies n 1 d k (u * n + d)
last-is u n d k h = record {
  q = u;
  j = 0;
  k_is = omega arith;
  low = omega arith;
  p_is = rw (mul-one n, mul-one d) (omega arith);
}

third-is : (u n e d k t : ℕ) → t < e → k ≡ u * e + t → Lies n e d k ((u * n + d) * e + t)
third-is u n e d k t l h = record { q = u; j = t; k_is = h; low = l; p_is = simp (add-mul, mul_assoc) (omega arith) }

second_is : (x n c e d k z t : ℕ) → z < c → t < e → k ≡ (x * c + z) * e + t → Lies n (c * e) d k (((x * n + d) * c + z) * e + t)
second_is x n c e d k z t l m h = record {
  q = x;
  j = z * e + t;
  k_is = h ∙ simp (add-mul, mul_assoc) (omega arith);
  low = digits_lt l m;
  p_is = simp (add-mul, mul_assoc) (omega arith);
}

first-is : (n b c e d k y z t : ℕ) → k < b * (c * e) → k ≡ (y * c + z) * e + t → Lies n (b * (c * e)) d k (((d * b + y) * c + z) * e + t)
first-is n b c e d k y z t l h = record {
  q = 0;
  j = k;
  k_is = omega arith;
  low = l;
  p_is = rw h (simp (add-mul, mul_assoc) (omega arith));
}

-- ---- the strides, and an index as four numbers

stride_0 : (n : List ℕ) → at (strides n) 0 ≡ at n 1 * (at n 2 * at n 3)
unfolding strides span
stride_0 n = rw (mul-one (at n 3))

stride_1 : (n : List ℕ) → at (strides n) 1 ≡ at n 2 * at n 3
unfolding strides span
stride_1 n = rw (mul-one (at n 3))

stride_2 : (n : List ℕ) → at (strides n) 2 ≡ at n 3
unfolding strides span
stride_2 n = mul-one (at n 3)

stride_3 : (n : List ℕ) → at (strides n) 3 ≡ 1
unfolding strides span
stride_3 n = refl

numbers : (c : List ℕ) (k : ℕ) → index c k ≡ at (index c k) 0 ∷ at (index c k) 1 ∷ at (index c k) 2 ∷ at (index c k) 3 ∷ []
unfolding index
numbers c k = refl

-- ---- the four variables

module _ (n : List ℕ) (d m l : ℕ) where
  -- the place of the index k of a row of v
  abbrev from : ℕ → ℕ → ℕ
  from v k = place n (set (index (set n v 1) k) v d)

  abbrev Here : ℕ → Type 0
  Here v = Picking n (set n v 1) v d m l → (k : ℕ) → k < count (set n v 1) → Lies (at n v) (at (strides n) v) d k (from v k)

  same : (v w : ℕ) → (w ≡ v → ⊥) → at (set n v 1) w ≡ at n w
  same v w o = at_other n v w 1 o

  -- what is known of the index k of a row of v
  module _ (v : ℕ) (p : Picking n (set n v 1) v d m l) (k : ℕ) (h : k < count (set n v 1)) where
    abbrev i : List ℕ
    i = index (set n v 1) k

    in_row : Inside (set n v 1) i
    in_row = index-inside (set n v 1) k p.to h

    by-horner : k ≡ ((at i 0 * at (set n v 1) 1 + at i 1) * at (set n v 1) 2 + at i 2) * at (set n v 1) 3 + at i 3
    by-horner = sym (place-index (set n v 1) k) ∙ horner (set n v 1) i

  -- each length but v's is the block's
  lies_0 : Here 0
  lies_0 p k h =
      let i = index (set n 0 1) k in
      let e1 = same 0 1 (λ e. omega (arith, e)) in
      let e2 = same 0 2 (λ e. omega (arith, e)) in
      let e3 = same 0 3 (λ e. omega (arith, e)) in
      let o : at i 0 ≡ 0 = omega (arith, (in_row 0 p k h).i0, p.alone) in
      let f : k ≡ (at i 1 * at n 2 + at i 2) * at n 3 + at i 3 =
      by-horner 0 p k h ∙ (rw (o, e1, e2, e3, zero-mul (at n 1), zero-add (at i 1))) in
      let c : count (set n 0 1) ≡ at n 1 * (at n 2 * at n 3) = count-is (set n 0 1) ∙ (rw (p.alone, e1, e2, e3) (one-mul _)) in
      rw (numbers (set n 0 1) k, stride_0 n, horner n (d ∷ at i 1 ∷ at i 2 ∷ at i 3 ∷ []))
      (first-is (at n 0) (at n 1) (at n 2) (at n 3) d k (at i 1) (at i 2) (at i 3) (omega (arith, c)) f)

  lies_1 : Here 1
  lies_1 p k h =
      let i = index (set n 1 1) k in
      let e2 = same 1 2 (λ e. omega (arith, e)) in
      let e3 = same 1 3 (λ e. omega (arith, e)) in
      let o : at i 1 ≡ 0 = omega (arith, (in_row 1 p k h).i1, p.alone) in
      let f : k ≡ (at i 0 * at n 2 + at i 2) * at n 3 + at i 3 =
      by-horner 1 p k h ∙ (rw (o, p.alone, e2, e3, mul-one (at i 0), add-zero (at i 0))) in
      rw (numbers (set n 1 1) k, stride_1 n, horner n (at i 0 ∷ d ∷ at i 2 ∷ at i 3 ∷ []))
      (second_is (at i 0) (at n 1) (at n 2) (at n 3) d k (at i 2) (at i 3) (omega (arith, (in_row 1 p k h).i2, e2))
      (omega (arith, (in_row 1 p k h).i3, e3)) f)

  lies_2 : Here 2
  lies_2 p k h =
      let i = index (set n 2 1) k in
      let e1 = same 2 1 (λ e. omega (arith, e)) in
      let e3 = same 2 3 (λ e. omega (arith, e)) in
      let o : at i 2 ≡ 0 = omega (arith, (in_row 2 p k h).i2, p.alone) in
      let f : k ≡ (at i 0 * at n 1 + at i 1) * at n 3 + at i 3 =
      by-horner 2 p k h ∙ (rw (o, p.alone, e1, e3, mul-one (at i 0 * at n 1 + at i 1), add-zero (at i 0 * at n 1 + at i 1))) in
      rw (numbers (set n 2 1) k, stride_2 n, horner n (at i 0 ∷ at i 1 ∷ d ∷ at i 3 ∷ []))
      (third-is (at i 0 * at n 1 + at i 1) (at n 2) (at n 3) d k (at i 3) (omega (arith, (in_row 2 p k h).i3, e3)) f)

  lies_3 : Here 3
  lies_3 p k h =
      let i = index (set n 3 1) k in
      let e1 = same 3 1 (λ e. omega (arith, e)) in
      let e2 = same 3 2 (λ e. omega (arith, e)) in
      let o : at i 3 ≡ 0 = omega (arith, (in_row 3 p k h).i3, p.alone) in
      let u : ℕ = (at i 0 * at n 1 + at i 1) * at n 2 + at i 2 in
      let f : k ≡ u = by-horner 3 p k h ∙ (rw (o, p.alone, e1, e2, mul-one u, add-zero u)) in
      rw (numbers (set n 3 1) k, stride_3 n, horner n (at i 0 ∷ at i 1 ∷ at i 2 ∷ d ∷ []))
      (last-is u (at n 3) d k f)

  lies : (v : ℕ) → v < 4 → Here v
  lies = each Here lies_0 lies_1 lies_2 lies_3

  -- as many stretches as the lengths before v say
  record Counted (v : ℕ) : Type 0 where
    outer : ℕ
    is : count (set n v 1) ≡ outer * at (strides n) v

  counted : (v : ℕ) → v < 4 → at (set n v 1) v ≡ 1 → Counted v
  counted = each (λ v. at (set n v 1) v ≡ 1 → Counted v)
      (λ o. record {
        outer = 1;
        is = count-is (set n 0 1) ∙ (rw (o, same 0 1 (λ e. omega (arith, e)), same 0 2 (λ e. omega (arith, e)), same 0 3 (λ e. omega (arith, e)), stride_0 n));
      })
      (λ o. record {
        outer = at n 0;
        is = count-is (set n 1 1) ∙ (rw (
          o,
          same 1 0 (λ e. omega (arith, e)),
          same 1 2 (λ e. omega (arith, e)),
          same 1 3 (λ e. omega (arith, e)),
          stride_1 n,
          one-mul (at n 2 * at n 3),
        ));
      })
      (λ o. record {
        outer = at n 0 * at n 1;
        is = count-is (set n 2 1) ∙ (rw (
          o,
          same 2 0 (λ e. omega (arith, e)),
          same 2 1 (λ e. omega (arith, e)),
          same 2 3 (λ e. omega (arith, e)),
          stride_2 n,
          one-mul (at n 3),
        ) (sym (mul_assoc (at n 0) (at n 1) (at n 3))));
      })
      (λ o. record {
        outer = at n 0 * (at n 1 * at n 2);
        is = count-is (set n 3 1) ∙ (rw (
          o,
          same 3 0 (λ e. omega (arith, e)),
          same 3 1 (λ e. omega (arith, e)),
          same 3 2 (λ e. omega (arith, e)),
          stride_3 n,
          mul-one (at n 2),
          mul-one (at n 0 * (at n 1 * at n 2)),
        ));
      })

-- three lengths
small_stride : {n : List ℕ} → Lengths n → (v : ℕ) → v < 4 → at (strides n) v ≤ 262144
small_stride {n} g = each (λ v. at (strides n) v ≤ 262144)
    (rw (stride_0 n) (mul-le-mul g.m1 (mul-le-mul g.m2 g.m3)))
    (rw (stride_1 n) (le_trans (mul-le-mul g.m2 g.m3) (lit≤ tt)))
    (rw (stride_2 n) (le_trans g.m3 (lit≤ tt)))
    (rw (stride_3 n) (lit≤ tt))

row_of : (q outer w : ℕ) → q * w < outer * w → q * w + w ≤ outer * w
row_of q outer w h =
    decide (ltb q outer)
    (λ t. let m : suc q * w ≤ outer * w = mul-le-mul_right w (ltb-true q outer t) in omega (arith, suc-mul q w, m))
    (λ t. let m : outer * w ≤ q * w = mul-le-mul_right w (ltb-false q outer t) in absurd (omega (arith, m)))

module _ {n : List ℕ} {v d m l : ℕ} (p : Picking n (set n v 1) v d m l) where
  abbrev width : ℕ
  width = at (strides n) v

  place_is : (k : ℕ) → k < count (set n v 1) → place n (set (index (set n v 1) k) v d) ≡ d * width + k / width * (at n v * width) + k % width
  place_is k h =
      let x = lies n d m l v p.var p k h in
      let q : k / width ≡ x.q = ap (λ (y : ℕ). y / width) x.k_is ∙ digits_div x.q x.low in
      let j : k % width ≡ x.j = ap (λ (y : ℕ). y % width) x.k_is ∙ digits_mod x.q x.low in
      x.p_is ∙ (rw (q, j))

  some-width : 0 < width
  some-width = let x = (lies n d m l v p.var p 0 (count-pos p.to)).low in omega arith

  pub whole_stretched : Stretched (d * width) width (at n v * width) m l
  whole_stretched =
      let c = counted n d m l v p.var p.alone in
      let whole : (q : ℕ) → q * width < l → q * width + width ≤ l =
      λ q h. let r = row_of q c.outer width (omega (arith, p.full, c.is)) in omega (arith, p.full, c.is) in
      record {
        some = some-width;
        near = mul-le-mul (lengths-most p.from v p.var) (small_stride p.from v p.var);
        whole = whole;
        room = λ q h.
            let w = some-width in
            let k : ℕ = q * width + (width - 1) in
            let f = whole q h in
            let b : k < count (set n v 1) = omega (arith, p.full) in
            let e1 : k / width ≡ q = digits_div q (omega arith) in
            let e2 : k % width ≡ width - 1 = digits_mod q (omega arith) in
            let e : place n (set (index (set n v 1) k) v d) ≡ d * width + q * (at n v * width) + (width - 1) = place_is k b ∙ (rw (e1, e2)) in
            omega (arith, e, place-lt n (set (index (set n v 1) k) v d) (pick-inside p k b), p.room);
      }

  pub whole_is : (a : List Float) → table l (stretch_at a (d * width) width (at n v * width))
      ≡ table (count (set n v 1)) (λ k. read_at (block n a) (set (index (set n v 1) k) v d))
  unfolding stretch_at
  whole_is a =
      rw p.full (table_same _ _ (count (set n v 1)) (λ k h. ap (λ (x : ℕ). get_or a x nan) (sym (place_is k h))))

  -- as the code works the width w out
  module _ {w : ℕ} (e : w ≡ at (strides n) v) where
    pub whole-step : at n v * w ≤ 16777216
    whole-step = rw e whole_stretched.near

    pub whole_from : d * w ≤ 16777216
    whole_from =
        let r : d ≤ 64 = omega (arith, p.row, lengths-most p.from v p.var) in
        rw e (mul-le-mul r (small_stride p.from v p.var))

    pub whole_stretches : Stretched (d * w) w (at n v * w) m l
    whole_stretches = rw e whole_stretched

    pub whole-written : (a : List Float) → table l (stretch_at a (d * w) w (at n v * w))
        ≡ table (count (set n v 1)) (λ k. read_at (block n a) (set (index (set n v 1) k) v d))
    whole-written a = rw e (whole_is a)

    -- stretches of one place
    module _ (o : w ≡ 1) where
      from_is : d * w ≡ d
      from_is = rw o (mul-one d)

      pub whole-every : Stretched d 1 (at n v * w) m l
      whole-every = subst (λ (x : ℕ). Stretched d x (at n v * w) m l) o (subst (λ (x : ℕ). Stretched x w (at n v * w) m l) from_is whole_stretches)

      pub every-written : (a : List Float) → table l (stretch_at a d 1 (at n v * w))
          ≡ table (count (set n v 1)) (λ k. read_at (block n a) (set (index (set n v 1) k) v d))
      every-written a =
          ap (λ (x : ℕ). table l (stretch_at a x 1 (at n v * w))) (sym from_is)
          ∙ (ap (λ (x : ℕ). table l (stretch_at a (d * w) x (at n v * w))) (sym o) ∙ whole-written a)

-- lengths c that are the block's but in v, number by number
module _ (n : List ℕ) {c : List ℕ} (v d : ℕ) (s : Same (set n v 1) c) where
  same_at : (k : ℕ) → k < 4 → at (set n v 1) k ≡ at c k
  same_at = each (λ k. at (set n v 1) k ≡ at c k) s.s0 s.s1 s.s2 s.s3

  pub same_picking : {m l : ℕ} → Picking n c v d m l → Picking n (set n v 1) v d m l
  same_picking p =
      let g = p.to in
      record {
        from = p.from;
        to = record {
          p0 = rw s.s0 g.p0;
          p1 = rw s.s1 g.p1;
          p2 = rw s.s2 g.p2;
          p3 = rw s.s3 g.p3;
          m0 = rw s.s0 g.m0;
          m1 = rw s.s1 g.m1;
          m2 = rw s.s2 g.m2;
          m3 = rw s.s3 g.m3;
        };
        var = p.var;
        row = p.row;
        alone = same_at v p.var ∙ p.alone;
        inner = λ k h. rw (same_at k h) (p.inner k h);
        room = p.room;
        full = p.full ∙ sym (same_count s);
      }

  same_index : (k : ℕ) → index (set n v 1) k ≡ index c k
  unfolding index
  same_index k = rw (s.s1, s.s2, s.s3)

  pub same-written : (a : List Float) → table (count (set n v 1)) (λ k. read_at (block n a) (set (index (set n v 1) k) v d))
      ≡ table (count c) (λ k. read_at (block n a) (set (index c k) v d))
  same-written a =
      ap (λ (x : ℕ). table x (λ k. read_at (block n a) (set (index (set n v 1) k) v d))) (same_count s)
      ∙ table_same _ _ (count c) (λ k h. ap (λ (x : List ℕ). read_at (block n a) (set x v d)) (same_index k))
