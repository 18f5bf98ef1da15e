-- What rests on laws of specs/ (Lessened).
use Rattle.std.specs.Prelude.{◌≡◌, ℤ, Float}
use Rattle.std.proofs.Math.Path.{refl}
use Rattle.std.proofs.Common.{le_trans, arith}
use Rattle.std.proofs.Math.Bool.{false}
use mathlib.Core.List.{List, [], ◌∷◌}
use Prim.Native.Nat.{ℕ, zero, suc, ◌+◌, ◌-◌}
use Rattle.lists.specs.Four.{at}
use Rattle.model_textbook.specs.Box.{degree}
use Rattle.model.specs.Poly.{Block, block, coefficient_at}
use Rattle.model.specs.Quotient.{lessened, quotient_at}
use Rattle.model_textbook.specs.Textbook.{Series, times}
use Rattle.laws_whole.specs.Int.{unit-back}
use Rattle.laws_whole.specs.Index.{InBox, Within}
use Rattle.laws_whole.specs.PlaceLaws.{box_place}
use Rattle.laws_whole.specs.SeriesSizes.{abs-times}
use Rattle.laws_whole.specs.Whole.{Whole}
use Rattle.laws_whole.specs.Exact.{whole-add, whole_neg, whole-div}
use Rattle.shape_words.specs.Lengths.{Inside}
use Rattle.laws_keeps.specs.Sits.{Sits}
use Rattle.laws_exact.specs.Windows.{times-nil}
use Rattle.laws_exact.specs.Remaining.{from}
use Rattle.laws_exact.specs.Joins.{join_at_lem}
use Rattle.laws_exact_quotient.specs.Lasts.{taken_z}
use Rattle.laws_exact_quotient.specs.Lessened.{Left, further, own-left, own-small, taken-whole}

module _ {r k : List ℕ} {zs : List Float} {y : Block} (s : Sits r (block r zs)) (t : Sits r y) (i : Inside r k) where
  abbrev ly : List ℕ
  ly = y.lengths

  abbrev ys : List Float
  ys = y.places

  module _ (n v : ℕ) (e : suc n + v ≡ 4) {q : List Float} {P B : Series} (w : Left r k y (suc n) v q P B) where
    abbrev ks : List ℕ
    ks = from k n (suc v)

    abbrev taken_at : ℤ
    taken_at = taken_z P B (at ly v) (at k v) ks

    -- the place's own row times the divisor's row 0
    abbrev own_at : ℤ
    own_at = times (λ j. P (at k v ∷ j)) (λ j. B (0 ∷ j)) ks

  pub lessened-whole : (n v : ℕ) → n + v ≡ 4 → {q : List Float} {P B : Series} → Left r k y n v q P B → {c : Float} → Whole c (times P B (from k n v))
      → Whole (lessened ly r ys k n v q c) (P (from k n v))
  unfolding lessened from box_place degree
  lessened-whole zero v e {P = P} {B = B} w z =
      let u = w.unit [] refl refl in
      rw (unit-back (P []) (B []) u) at
      (whole-div (rw (times-nil P B) at z) (w.divisor.known [] InBox.none Within.none) u (rw (← times-nil P B) (le_trans (abs-times P B []) w.room)))
  lessened-whole (suc n) v e w z =
      let o = (own-left s t i) n v e w in
      lessened-whole n (suc v) (omega arith) ((further s t i) n v e w) (rw o at (whole-add (whole_neg ((taken-whole s t i) n v e w)) z
      (rw o ((own-small s t i) n v e w))))

  -- the place: the dividend is added in the first variable, where it stores something
  pub quotient_at-whole : (x : Block) {q : List Float} {P B : Series} → Left r k y 4 0 q P B → Whole (coefficient_at x k) (times P B (from k 4 0))
      → Whole (quotient_at x y r k q) (P (from k 4 0))
  unfolding quotient_at from
  quotient_at-whole x w z =
      let o = (own-left s t i) 3 0 refl w in
      lessened-whole 3 1 refl ((further s t i) 3 0 refl w) (rw o at (join_at_lem false x k (whole_neg ((taken-whole s t i) 3 0 refl w)) z
      (rw o ((own-small s t i) 3 0 refl w))))
