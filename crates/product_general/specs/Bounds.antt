-- What the calls ask, from what the callers were given.
use Rattle.std.specs.Prelude.{ℕ, ◌+◌, ◌-◌, ◌*◌, ◌≤◌, ◌<◌, min, List, true, ◌≡◌, length, take, drop, Float}
use Rattle.std.proofs.Common.{◌∙◌, arith, mul-one, length-take, length-drop, Fits}
use Rattle.std.specs.Int.{w64}
use Rattle.lists.specs.Four.{at}
use Rattle.model.specs.Header.{span}
use Rattle.model.specs.General.{lo, alone}
use Rattle.shape_words.specs.Lengths.{Lengths, lengths-most}
use Rattle.shape_words.specs.InRow.{in_row}
use Rattle.shape_words.specs.Strides.{span_more, stride-at, row_in}
use Rattle.product_general.specs.Product.{alone-one}
use Rattle.product_general.specs.Rows.{Strided, Rowing, Several, Pairing}
use Rattle.product_general.specs.Pairs.{from_on}

-- the place of a number in an array of four
pub in_array : {v : ℕ} → v < 4 → Fits w64 (v * 8)
in_array h = omega arith

-- one long variable
pub line-size : {r : List ℕ} {v n : ℕ} → Lengths r → v < 4 → alone r (4 - (v + 1)) v ≡ true → n ≡ span r (4 - v) v → n ≤ 64
line-size {r} {v} {n} g h t e =
    let m : n ≡ at r v = e ∙ (span_more r h ∙ rw (alone-one r v t) (mul-one (at r v))) in
    omega (arith, m, lengths-most g v h)

-- a turn of the loop over j, from a up to b
pub record Turn (nx ny k j : ℕ) : Type 0 where
  pub below : j ≤ k
  pub left : j < nx
  pub right : k - j < ny

pub turn : {nx ny k a b j : ℕ} → 0 < ny → a ≡ lo ny k → b ≡ min (k + 1) nx → a ≤ j → j < b → Turn nx ny k j
turn p ea eb h l = record { below = omega arith; left = omega arith; right = omega arith }

-- the rows that are multiplied lie in their blocks
module _ {lx sx ly sy r sr : List ℕ} (g : Strided lx sx ly sy r sr) {v k j : ℕ} {nx ny nr : ℕ}
    (p : Pairing lx ly r v k nx ny nr) (t : Turn (at lx v) (at ly v) k j) where
  pub left_in_lem : j * at sx v + at sx v ≤ nx
  left_in_lem = row_in lx p.some t.left (stride-at lx g.by_x p.some) p.room_x

  pub right_in_lem : (k - j) * at sy v + at sy v ≤ ny
  right_in_lem = row_in ly p.some t.right (stride-at ly g.by_y p.some) p.room_y

pub length_on : (p : ℕ) (xs : List Float) → length (from_on xs p) ≡ length xs - p
length_on p xs = simp (length-take, length-drop) (omega arith)

pub rowing-next : {lx sx ly sy r sr : List ℕ} (g : Strided lx sx ly sy r sr) {v k j nr mr : ℕ} (xs ys : List Float)
    (p : Pairing lx ly r v k (length xs) (length ys) nr) → Turn (at lx v) (at ly v) k j → mr ≡ in_row r v
    → Rowing lx ly r (v + 1) (length (from_on xs (j * at sx v))) (length (from_on ys ((k - j) * at sy v))) mr
rowing-next {lx} {sx} {ly} {sy} g {v} {k} {j} xs ys p t e =
    let h = p.some in
    record {
      within = omega arith;
      room_x = rw (length_on (j * at sx v) xs) (omega (arith, left_in_lem g p t, stride-at lx g.by_x h));
      room_y = rw (length_on ((k - j) * at sy v) ys) (omega (arith, right_in_lem g p t, stride-at ly g.by_y h));
      full = e;
    }

-- the row k of the result
module _ {lx sx ly sy r sr : List ℕ} (g : Strided lx sx ly sy r sr) {v nx ny nr : ℕ} (p : Rowing lx ly r v nx ny nr)
    (m : Several r v) {k : ℕ} (h : k < at r v) where
  pub result_in : k * at sr v + at sr v ≤ nr
  result_in = let f = p.full in row_in r m.some h (stride-at r g.by_r m.some) (omega arith)

  pub pairing-of : (out : List Float) {e : ℕ} → length out ≡ nr → e ≡ at sr v → Pairing lx ly r v k nx ny (length (take e (drop (k * at sr v) out)))
  pairing-of out {e} l q =
      let b = result_in in
      let z : length (take e (drop (k * at sr v) out)) ≡ at sr v = simp (length-take, length-drop) (omega arith) in
      record { some = m.some; row = h; room_x = p.room_x; room_y = p.room_y; full = z ∙ stride-at r g.by_r m.some }
