-- The number of places of the variables from v on, and how far apart neighbours lie in v.
use Rattle.std.specs.Prelude.{ℕ, zero, suc, ◌+◌, ◌-◌, ◌*◌, ◌≤◌, ◌<◌, List, ◌≡◌, refl}
use Rattle.std.proofs.Common.{sym, ap, ◌∙◌, arith, add-one, mul-le-mul_right, mul-le-mul_left, suc-mul, mul-pos, zero-lt-suc}
use Rattle.lists.specs.Four.{at, each}
use Rattle.model.specs.Header.{span}
use Rattle.model.specs.Places.{strides}
use Rattle.shape_words.specs.Lengths.{Lengths, lengths-pos}
use Rattle.shape_words.specs.InRow.{in_row}

-- v is one of the variables left
pub one_left : {v : ℕ} → v < 4 → 4 - v ≡ suc (4 - (v + 1))
one_left h = omega arith

-- one variable more
pub span_more : (l : List ℕ) {v : ℕ} → v < 4 → span l (4 - v) v ≡ at l v * in_row l v
unfolding span
span_more l {v} h = ap (λ (n : ℕ). span l n v) (one_left h) ∙ ap (λ (w : ℕ). at l v * span l (4 - (v + 1)) w) (sym (add-one v))

pub span_none : (l : List ℕ) {v : ℕ} → v ≡ 4 → span l (4 - v) v ≡ 1
unfolding span
span_none l h = ap (λ (w : ℕ). span l (4 - w) w) h

span-some : {l : List ℕ} → Lengths l → (n v : ℕ) → n + v ≡ 4 → 0 < span l n v
unfolding span
span-some g zero v h = zero-lt-suc 0
span-some {l} g (suc n) v h = mul-pos (lengths-pos g v (omega arith)) (span-some g n (suc v) (omega arith))

pub span_pos : {l : List ℕ} {v : ℕ} → Lengths l → v ≤ 4 → 0 < span l (4 - v) v
span_pos {l} {v} g h = span-some g (4 - v) v (omega arith)

-- a row lies in a block
pub row_in : (l : List ℕ) {v j s m : ℕ} → v < 4 → j < at l v → s ≡ in_row l v → span l (4 - v) v ≤ m → j * s + s ≤ m
row_in l {v} {j} {s} {m} h i e b =
    let c : suc j * s ≤ at l v * s = mul-le-mul_right s i in
    let d : at l v * s ≤ m = rw (e, ← span_more l h) b in
    omega (arith, c, d, suc-mul j s)

-- the first length is no more than all
pub first_in : {l : List ℕ} {v m : ℕ} → Lengths l → v < 4 → span l (4 - v) v ≤ m → at l v ≤ m
first_in {l} {v} {m} g h b =
    let p : 1 ≤ in_row l v = span_pos g (omega arith) in
    let c : at l v * 1 ≤ at l v * in_row l v = mul-le-mul_left (at l v) p in
    let d : at l v * in_row l v ≤ m = rw (← span_more l h) b in
    omega (arith, c, d)

-- strides that were computed once
pub stride-at : (l : List ℕ) {s : List ℕ} {v : ℕ} → s ≡ strides l → v < 4 → at s v ≡ in_row l v
unfolding strides
stride-at l {s} {v} e h = rw e (each (λ v. at (strides l) v ≡ in_row l v) refl refl refl refl v h)
