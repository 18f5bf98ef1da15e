-- One place of a quotient (document 01, port order 5, the recurrence of `div`): A is lessened, variable by variable, by
-- what the rows before give, then divided by the divisor's constant. Where P B is A at that index, what is left before
-- the division is P times the constant: so the place is P. No number in between is more than the sizes of the terms of
-- P B there.
use Rattle.std.specs.Prelude.{◌≡◌, length, drop, ℤ, nat_abs, ◌+ℤ◌, Float}
use Rattle.std.proofs.Math.Path.{refl, ap}
use Rattle.std.proofs.Common.{sym, ◌∙◌, le_trans, zero-mul, arith}
use Rattle.std.proofs.Math.Bool.{false}
use mathlib.Core.List.{List, [], ◌∷◌}
use Prim.Native.Nat.{ℕ, zero, suc, ◌+◌, ◌-◌, ◌^◌, ◌≤◌, ◌<◌}
use Rattle.std.proofs.Math.IntN.{neg_ℤ, +ℤ_idl}
use Rattle.lists.specs.Four.{at}
use Rattle.model.specs.Header.{span}
use Rattle.model_textbook.specs.Box.{degree}
use Rattle.model.specs.Poly.{Block, block, coefficient_at}
use Rattle.model.specs.General.{lo}
use Rattle.model.specs.Quotient.{rows_before, taken, lessened, quotient_at}
use Rattle.model_textbook.specs.Textbook.{Series, times}
use Rattle.laws_whole.specs.Int.{neg_+ℤ_cancel, unit-back}
use Rattle.laws_whole.specs.Index.{InBox, Within}
use Rattle.laws_whole.specs.PlaceLaws.{box_place}
use Rattle.laws_whole.specs.SeriesSizes.{sizes, abs-times}
use Rattle.laws_whole.specs.Whole.{Whole, whole-zero}
use Rattle.laws_whole.specs.Exact.{whole-add, whole_neg, whole-div}
use Rattle.laws_whole.specs.Steps.{whole-walk}
use Rattle.shape_words.specs.Lengths.{Inside, inside-at}
use Rattle.laws_keeps.specs.Sits.{Sits}
use Rattle.laws_exact.specs.Windows.{times-nil}
use Rattle.laws_exact.specs.Remaining.{from, from-count, from_in-box}
use Rattle.laws_exact.specs.Terms.{Stores, row_stores}
use Rattle.laws_exact.specs.Rows.{place-whole}
use Rattle.laws_exact.specs.Joins.{join_at_lem}
use Rattle.laws_exact_quotient.specs.Lasts.{taken_z, times-last, sizes-last}
use Rattle.laws_exact_quotient.specs.Earlier.{Before, row_before, row-own}

-- n variables are left, from v on: q has the places before that of k, y is the divisor, whose constant is 1 or -1, and
-- there is room for the terms of P B
pub record Left (r k : List ℕ) (y : Block) (n v : ℕ) (q : List Float) (P B : Series) : Type 0 where
  pub earlier : Before (from r n v) (from k n v) q P
  pub divisor : Stores (from y.lengths n v) (from k n v) y.places B
  pub unit : (j : List ℕ) → length j ≡ n → degree j ≡ 0 → nat_abs (B j) ≡ 1
  pub room : sizes P B (from k n v) ≤ 2 ^ 53

module _ {r k : List ℕ} {zs : List Float} {y : Block} (s : Sits r (block r zs)) (t : Sits r y) (i : Inside r k) where
  abbrev ly : List ℕ
  ly = y.lengths

  abbrev ys : List Float
  ys = y.places

  -- ---- what the rows before give is exact

  -- of the variables left k lies inside
  left-inside : (n v : ℕ) → n + v ≡ 4 → InBox (from k n v) (from r n v)
  left-inside n v e = from_in-box k r n v (λ w p q. inside-at i w (omega arith))

  module _ (n v : ℕ) (e : suc n + v ≡ 4) {q : List Float} {P B : Series} (w : Left r k y (suc n) v q P B) where
    abbrev ks : List ℕ
    ks = from k n (suc v)

    abbrev taken_at : ℤ
    taken_at = taken_z P B (at ly v) (at k v) ks

    -- the place's own row times the divisor's row 0
    abbrev own_at : ℤ
    own_at = times (λ j. P (at k v ∷ j)) (λ j. B (0 ∷ j)) ks

    least : 1 ≤ at ly v
    least = t.lo v (omega arith)

    own : at k v < at r v
    own = inside-at i v (omega arith)

    pub taken-whole : Whole (taken ly r ys k n v q) taken_at
    unfolding taken from
    taken-whole =
        let kv = at k v in
        let L = lo (at ly v) kv in
        rw (← +ℤ_idl taken_at)
        (whole-walk {n = kv - L} {a = L}
        (record {
          size = λ j x z. abs-times (λ d. P (j ∷ d)) (λ d. B ((kv - j) ∷ d)) ks;
          step = λ j x z f c g h.
              place-whole s t i n (suc v) (omega arith)
              (row_before w.earlier own (span r n (suc v)) (sym (from-count r n (suc v))) j (omega arith) (left-inside n (suc v) (omega arith)))
              (row_stores w.divisor (kv - j) (omega arith) (span ly n (suc v)) (sym (from-count ly n (suc v))) (omega (arith, least)))
              g h;
        })
        whole-zero (omega (arith, sizes-last w.divisor least P, w.room)))

    -- the product less what the rows before give
    pub own-left : neg_ℤ taken_at +ℤ times P B (from k (suc n) v) ≡ own_at
    unfolding from
    own-left = ap (λ (x : ℤ). neg_ℤ taken_at +ℤ x) (times-last w.divisor least P) ∙ neg_+ℤ_cancel taken_at own_at

    -- one variable further: the place's own row, and the divisor's row 0
    pub further : Left r k y n (suc v) (drop (rows_before ly r ys k n v) q) (λ j. P (at k v ∷ j)) (λ j. B (0 ∷ j))
    unfolding from degree
    further = record {
      earlier = row-own w.earlier own (span r n (suc v)) (sym (from-count r n (suc v)));
      divisor = rw (zero-mul (span ly n (suc v))) at (row_stores w.divisor 0 (omega arith) (span ly n (suc v)) (sym (from-count ly n (suc v))) least);
      unit = λ j f d. w.unit (0 ∷ j) (ap suc f) (omega (arith, d));
      room = omega (arith, sizes-last w.divisor least P, w.room);
    }

    pub own-small : nat_abs own_at ≤ 2 ^ 53
    own-small = le_trans (abs-times (λ j. P (at k v ∷ j)) (λ j. B (0 ∷ j)) ks) further.room
    -- ---- all the variables left
