-- What a level still has to divide in its row k.
use Rattle.std.specs.Prelude.{ℕ, zero, suc, ◌+◌, ◌-◌, ◌*◌, ◌≤◌, ◌<◌, List, ◌≡◌, refl, length, get_or, Float}
use Rattle.std.proofs.Common.{ap, ◌∙◌, arith, add-one, le_refl, le_trans, mul-le-mul_right, one-mul, get_or-take, get_or-drop}
use Rattle.std.specs.Float.{nan, binary64}
use Rattle.std.specs.Float.Ieee.{add, neg}
use Rattle.lists.specs.Four.{at}
use Rattle.lists.specs.Table.{table, table_same, table_at, length-table}
use Rattle.lists.specs.Part.{part, length_part}
use Rattle.model.specs.Header.{span, count}
use Rattle.shape_words.specs.Lengths.{Lengths, lengths-pos}
use Rattle.shape_words.specs.InRow.{in_row}
use Rattle.shape_words.specs.Strides.{span_more, stride-at, row_in}
use Rattle.quotient_lessening.specs.Laid.{Laid}
use Rattle.quotient_levels.specs.Level.{taken_at, left_at}
use Rattle.quotient_levels.specs.Room.{Dividing, Taking, RowRoom}

-- a row has no more places than the sub-block, and that no more than all
pub row-less : {l : List ℕ} → Lengths l → {v : ℕ} → v < 4 → in_row l v ≤ span l (4 - v) v
row-less {l} g {v} h =
    let m : 1 * in_row l v ≤ at l v * in_row l v = mul-le-mul_right (in_row l v) (lengths-pos g v h) in
    rw (span_more l h) (omega (arith, m, one-mul (in_row l v)))

pub span_in : {l : List ℕ} → Lengths l → (v : ℕ) → v ≤ 4 → span l (4 - v) v ≤ count l
span_in g zero h = le_refl _
span_in {l} g (suc v) h =
    let m : in_row l v ≤ span l (4 - v) v = row-less g (omega arith) in
    le_trans (rw (add-one v) at m) (span_in g v (omega arith))

-- a place of a part
pub part_at : (f t : ℕ) (w : List Float) (i : ℕ) → i < t - f → get_or (part f t w) i nan ≡ get_or w (f + i) nan
part_at f t w i h = get_or-take (t - f) _ i nan h ∙ get_or-drop f w i nan

module _ {ly sy r sr : List ℕ} (g : Dividing ly sy r sr) {v k p e q b f mr : ℕ} (w : List Float) (t : RowRoom ly r v k p e q b f (length w) mr) where
  stride : at sr v ≡ in_row r v
  stride = stride-at r g.strided.by_r t.some

  -- the row lies in the sub-block
  pub row_fits : k * at sr v + in_row r v ≤ span r (4 - v) v
  row_fits = rw stride (row_in r t.some t.turn refl (le_refl _))

  pub gather_taking : Taking ly r v k (length (part q (q + k * at sr v) w)) (length (part b f w)) mr
  gather_taking =
      let a = t.apart in
      let z = t.ends in
      let m = t.room in
      let d = t.divisor in
      let o = t.before in
      let x : q + k * at sr v ≤ length w = omega (arith, row_fits) in
      let y : f ≤ length w = omega (arith, row_fits) in
      let n : q + k * at sr v - q ≡ k * in_row r v = rw stride (omega arith) in
      record {
        some = t.some;
        row = t.turn;
        before = length_part q (q + k * at sr v) w (omega arith) x ∙ n;
        room = rw (length_part b f w (omega arith) y) (omega (arith, span_in g.strided.right v (let s = t.some in omega arith)));
        full = t.row;
      }

  pub gathered : {row w' : List Float} → row ≡ table (in_row r v) (taken_at ly r v k (part q (q + k * at sr v) w) (part b f w))
      → Laid e (table (length row) (λ i. add binary64 (neg (get_or row i nan)) (get_or w (p + k * at sr v + i) nan))) (length w) w w'
      → Laid e (table (in_row r v) (left_at ly r v k (part q (q + k * in_row r v) w) (part b f w) (part p e w))) (length w) w w'
  gathered {row} {w'} h a =
      let s : ℕ = in_row r v in
      let fs = row_fits in
      let n : length row ≡ s = ap length h ∙ length-table _ s in
      let same : table (length row) (λ i. add binary64 (neg (get_or row i nan)) (get_or w (p + k * at sr v + i) nan))
      ≡ table s (left_at ly r v k (part q (q + k * s) w) (part b f w) (part p e w)) =
      ap (λ (m : ℕ). table m (λ i. add binary64 (neg (get_or row i nan)) (get_or w (p + k * at sr v + i) nan))) n
      ∙ table_same _ _ s (λ i l.
      let x : get_or row i nan ≡ taken_at ly r v k (part q (q + k * s) w) (part b f w) i =
      ap (λ (z : List Float). get_or z i nan) h ∙ (table_at nan _ s i l ∙ ap (λ (z : ℕ). taken_at ly r v k (part q (q + k * z) w) (part b f w) i) stride) in
      let y : get_or (part p e w) (k * s + i) nan ≡ get_or w (p + k * at sr v + i) nan =
      part_at p e w (k * s + i) (let z = t.ends in omega (arith, ap (λ (z : ℕ). k * z) stride))
      ∙ ap (λ (z : ℕ). get_or w z nan) (omega (arith, ap (λ (z : ℕ). k * z) stride)) in
      rw (x, y)) in
      rw same at a
