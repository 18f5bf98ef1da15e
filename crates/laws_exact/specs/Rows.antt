-- One place of the general product (document 01, port order 4, 'General') is the exact product of the series there,
-- where the sizes of its terms sum to 2 ^ 53 at most.
-- The recursion on the first variable is the sum over the first number of an index; a line is such a sum where every
-- later number is 0.
use Rattle.std.specs.Prelude.{◌≡◌, true, not, eqb, ℤ, nat_abs, ◌+ℤ◌, Float}
use Rattle.std.proofs.Common.{sym, ◌∙◌, arith}
use mathlib.Core.List.{List, [], ◌∷◌}
use Prim.Native.Nat.{ℕ, zero, suc, ◌+◌, ◌-◌, ◌^◌, ◌≤◌, ◌<◌}
use Rattle.std.proofs.Math.Nat.{le_trans}
use borrow.Author.Tests.{eqb-true}
use Rattle.lists.specs.Test.{decide, and_right}
use Rattle.lists.specs.Four.{at}
use Rattle.model.specs.Header.{span}
use Rattle.model.specs.Poly.{Block}
use Rattle.model.specs.General.{lo, steps, alone, product_at}
use Rattle.model_textbook.specs.Textbook.{Series, times}
use Rattle.laws_whole.specs.Index.{InBox, Within}
use Rattle.laws_whole.specs.PlaceLaws.{box_place}
use Rattle.laws_whole.specs.SeriesSizes.{sizes, abs-times}
use Rattle.laws_whole.specs.Whole.{Whole}
use Rattle.laws_whole.specs.Steps.{whole-walk, mul-step}
use Rattle.shape_words.specs.Lengths.{Inside, inside-at}
use Rattle.laws_keeps.specs.Sits.{Sits}
use Rattle.laws_exact.specs.Windows.{times-nil, sizes-nil}
use Rattle.laws_exact.specs.Remaining.{from, from-count, from_in-box, from-degree}
use Rattle.shape_words.specs.Spans.{span-ones, ones-of-span}
use Rattle.laws_exact.specs.Terms.{Stores, row_stores, times_window, sizes_window, line_whole_lem}

module _ {r k : List ℕ} {a b : Block} (s : Sits r a) (t : Sits r b) (i : Inside r k) where
  abbrev lx : List ℕ
  lx = a.lengths

  abbrev ly : List ℕ
  ly = b.lengths

  alone_rest : (n v : ℕ) → alone r n v ≡ true → span r n (suc v) ≡ 1
  unfolding alone
  alone_rest n v h = eqb-true _ _ (and_right (not (eqb (at r v) 1)) (eqb (span r n (suc v)) 1) h)

  pub place-whole : (n v : ℕ) → n + v ≡ 4 → {xs ys : List Float} {P Q : Series} → Stores (from lx n v) (from k n v) xs P
      → Stores (from ly n v) (from k n v) ys Q
      → {x : Float} {c : ℤ} → Whole x c → nat_abs c + sizes P Q (from k n v) ≤ 2 ^ 53 → Whole (product_at lx ly r k n v xs ys x) (c +ℤ times P Q (from k n v))
  unfolding product_at from box_place
  place-whole zero v e {P = P} {Q = Q} p q w h =
      rw (times-nil P Q)
      (mul-step w (p.known [] InBox.none Within.none) (q.known [] InBox.none Within.none) (rw (sizes-nil P Q) at h))
  place-whole (suc n) v e {xs} {ys} {P} {Q} p q w h =
      decide (alone r n v)
      (λ u.
      let ones : (w : ℕ) → suc v ≤ w → w < suc v + n → at r w ≡ 1 =
      ones-of-span r n (suc v) (λ w x y. le_trans (s.lo w (omega arith)) (s.hi w (omega arith))) (alone_rest n v u) in
      let zeros : (w : ℕ) → suc v ≤ w → w < suc v + n → at k w ≡ 0 = λ w x y. omega (arith, inside-at i w (omega arith), ones w x y) in
      let lefts : (w : ℕ) → suc v ≤ w → w < suc v + n → at lx w ≡ 1 = λ w x y. omega (arith, s.lo w (omega arith), s.hi w (omega arith), ones w x y) in
      let rights : (w : ℕ) → suc v ≤ w → w < suc v + n → at ly w ≡ 1 = λ w x y. omega (arith, t.lo w (omega arith), t.hi w (omega arith), ones w x y) in
      rw u
      (line_whole_lem p q (from-degree k n (suc v) zeros)
      (from-count lx n (suc v) ∙ span-ones lx n (suc v) lefts)
      (from-count ly n (suc v) ∙ span-ones ly n (suc v) rights)
      (from_in-box k lx n (suc v) (λ w x y. omega (arith, zeros w x y, lefts w x y)))
      (from_in-box k ly n (suc v) (λ w x y. omega (arith, zeros w x y, rights w x y)))
      w h))
      (λ u.
      rw (u, times_window p q)
      (whole-walk {n = steps (at lx v) (at ly v) (at k v)} {a = lo (at ly v) (at k v)}
      (record {
        size = λ j x y. abs-times (λ d. P (j ∷ d)) (λ d. Q ((at k v - j) ∷ d)) (from k n (suc v));
        step = λ j x y z c w h.
            place-whole n (suc v) (omega arith)
            (row_stores p j (omega arith) (span lx n (suc v)) (sym (from-count lx n (suc v))) (omega arith))
            (row_stores q (at k v - j) (omega arith) (span ly n (suc v)) (sym (from-count ly n (suc v))) (omega arith))
            w h;
      })
      w (omega (arith, sizes_window p q))))
