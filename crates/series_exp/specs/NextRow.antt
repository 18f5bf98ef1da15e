-- The next row of exp from the rows before it, over the operand's rows times their numbers.
use Prim.Native.Nat.{ℕ, ◌+◌, ◌-◌, ◌*◌, ◌/◌, ◌≤◌, ◌<◌, min}
use mathlib.Core.List.{List}
use Rattle.std.proofs.Math.Bool.{false}
use Rattle.std.specs.Prelude.{◌≡◌, length, get_or, take, drop}
use Rattle.std.proofs.Math.Path.{refl, ap}
use Rattle.std.proofs.Common.{sym, ◌∙◌, add-one, le_refl, length-take, length-drop, get_or-drop, get_or-take}
use native.Mathlib.Omega.{arith}
use Rattle.std.proofs.Math.Nat.{add-mul-div_right, div-eq_of_lt}
use Rattle.std.specs.Float.Ieee.{Float, mul}
use Rattle.std.specs.Float.{nan, binary64}
use Rattle.lists.specs.Four.{at}
use Rattle.lists.specs.Table.{table, table_same, table_at, length-table}
use Rattle.lists.specs.Walk.{walk, walk_same}
use Rattle.model.specs.Header.{span}
use Rattle.model.specs.Places.{index}
use Rattle.model.specs.Refusals.{zero_f}
use Rattle.model.specs.Constructed.{whole_f}
use Rattle.model.specs.General.{product_at}
use Rattle.model.specs.Series.{times_whole, over_whole, exp_row}
use Rattle.lists.specs.Fill.{part-table}
use Rattle.shape_words.specs.InRow.{in_row}
use Rattle.shape_words.specs.Strides.{row_in}
use Rattle.series_gathering.specs.Gather.{pair_at, gathered}
use Rattle.series_scaling.specs.Weighed.{weighed_at}

-- every row of the variable v times its number
abbrev pub weighed : List ℕ → ℕ → List Float → List Float
weighed lx v xs = table (span lx (4 - v) v) (weighed_at (in_row lx v) xs)

-- the row k of exp from the rows before it
abbrev pub next_row : List ℕ → List ℕ → ℕ → List Float → ℕ → List Float → List Float
next_row lx r v xs k q = over_whole k (gathered false lx r v k 1 (min (k + 1) (at lx v)) (weighed lx v xs) q)

-- ---- the operand's rows, weighed

row_number : (j : ℕ) {t i : ℕ} → i < t → (j * t + i) / t ≡ j
row_number j {t} {i} h =
    let e : j * t + i ≡ i + j * t = omega arith in
    let z : i / t ≡ 0 = div-eq_of_lt h in
    ap (λ (x : ℕ). x / t) e ∙ (add-mul-div_right i j (omega arith) ∙ omega (arith, z))

weighed-row : (t j m : ℕ) (xs : List Float) → j * t + t ≤ m → m ≤ length xs
    → take t (drop (j * t) (table m (weighed_at t xs))) ≡ times_whole j (take t (drop (j * t) xs))
weighed-row t j m xs h l =
    let n : length (take t (drop (j * t) xs)) ≡ t = simp (length-take, length-drop) (omega arith) in
    part-table nan (table m (weighed_at t xs)) (j * t) t (omega (arith, length-table (weighed_at t xs) m))
    ∙ (table_same _ _ t (λ i p.
    table_at nan (weighed_at t xs) m (j * t + i) (omega arith)
    ∙ (ap (λ (z : ℕ). mul binary64 (get_or xs (j * t + i) nan) (whole_f z)) (row_number j p)
    ∙ ap (λ (z : Float). mul binary64 z (whole_f j)) (sym (get_or-take t (drop (j * t) xs) i nan p ∙ get_or-drop (j * t) xs i nan))))
    ∙ ap (λ (z : ℕ). table z (λ i. mul binary64 (get_or (take t (drop (j * t) xs)) i nan) (whole_f j))) (sym n))

-- the row is the definition's
module _ (head : Float) (lx r : List ℕ) {v : ℕ} (h : v < 4) (xs : List Float) (l : span lx (4 - v) v ≤ length xs) where
  row_is : (k : ℕ) (q : List Float) → next_row lx r v xs k q ≡ exp_row head lx r (4 - (v + 1)) v xs k q
  unfolding gathered exp_row
  row_is k q =
      let n : ℕ = 4 - (v + 1) in
      let m : ℕ = min (at lx v) (k + 1) - 1 in
      let c : min (k + 1) (at lx v) - 1 ≡ m = omega arith in
      let row_by : ℕ → List Float =
      λ w. over_whole k
      (table (span r n w)
      (λ i. walk (λ j acc. product_at lx r r (index r i) n w
      (times_whole j (take (span lx n w) (drop (j * span lx n w) xs)))
      (take (span r n w) (drop ((k - j) * span r n w) q)) acc) m 1 zero_f)) in
      ap (over_whole k) (table_same _ _ (in_row r v)
      (λ i p. ap (λ (s : ℕ). walk (pair_at false lx r v k (weighed lx v xs) q i) s 1 zero_f) c
      ∙ walk_same _ _ m 1 zero_f (λ j a b acc.
      rw (weighed-row (in_row lx v) j (span lx (4 - v) v) xs (row_in lx h (omega arith) refl (le_refl _)) l))))
      ∙ ap row_by (add-one v)

  pub rows_are : next_row lx r v xs ≡ exp_row head lx r (4 - (v + 1)) v xs
  rows_are = λ i k q. row_is k q i
