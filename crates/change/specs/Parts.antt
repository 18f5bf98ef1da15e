-- A place in three parts: the variables before v, the number of v, the variables after it. Rows of v that become more
-- or fewer, by place.
use Rattle.std.specs.Prelude.{ℕ, zero, suc, ◌+◌, ◌*◌, ◌/◌, ◌%◌, ◌<◌, List, [], ◌∷◌, ◌≡◌, set}
use Rattle.std.proofs.Common.{ap, ◌∙◌, arith, add-mul, mul_assoc, lit<}
use Rattle.std.proofs.Math.Nat.{mul-one}
use Rattle.std.proofs.Math.Arith.{digits_lt, digits_div, digits_mod}
use Rattle.lists.specs.Four.{at}
use Rattle.model.specs.Header.{count, span}
use Rattle.model.specs.Places.{strides, place, index}
use Rattle.shape_words.specs.Lengths.{Lengths, Inside}
use Rattle.shape_words.specs.Places.{horner, place-index, index-inside}

-- lengths that agree but in v
abbrev pub Others : ℕ → List ℕ → List ℕ → Type 0
Others v r n = (w : ℕ) → w < 4 → (w ≡ v → ⊥) → at r w ≡ at n w

-- p the place of the index i in a block with the lengths r; where the row x of v stands in one with the lengths n
record Parted (n r : List ℕ) (v s p : ℕ) (i : List ℕ) : Type 0 where
  outer : ℕ
  inner : ℕ
  low : inner < s
  row : at i v < at r v
  is : p ≡ (outer * at r v + at i v) * s + inner
  new : (x : ℕ) → place n (set i v x) ≡ (outer * at n v + x) * s + inner

module _ (n r : List ℕ) (a b c d : ℕ) (t : Inside r (a ∷ b ∷ c ∷ d ∷ [])) where
  abbrev i : List ℕ
  i = a ∷ b ∷ c ∷ d ∷ []

  parts_0 : at r 1 ≡ at n 1 → at r 2 ≡ at n 2 → at r 3 ≡ at n 3 → Parted n r 0 (at (strides n) 0) (place r i) i
  unfolding strides span
  parts_0 e1 e2 e3 =
      let z : at n 1 * (at n 2 * (at n 3 * 1)) ≡ at n 1 * at n 2 * at n 3 = simp (mul-one, mul_assoc) in
      record {
        outer = 0;
        inner = (b * at n 2 + c) * at n 3 + d;
        low = omega (arith, z, digits_lt (digits_lt (rw e1 at t.i1) (rw e2 at t.i2)) (rw e3 at t.i3));
        row = t.i0;
        is = horner r i ∙ (rw (e1, e2, e3) (simp (add-mul, mul-one, mul_assoc) (omega arith)));
        new = λ x. horner n (x ∷ b ∷ c ∷ d ∷ []) ∙ simp (add-mul, mul-one, mul_assoc) (omega arith);
      }

  parts_1 : at r 2 ≡ at n 2 → at r 3 ≡ at n 3 → Parted n r 1 (at (strides n) 1) (place r i) i
  unfolding strides span
  parts_1 e2 e3 =
      record {
        outer = a;
        inner = c * at n 3 + d;
        low = omega (arith, digits_lt (rw e2 at t.i2) (rw e3 at t.i3));
        row = t.i1;
        is = horner r i ∙ (rw (e2, e3) (simp (add-mul, mul-one, mul_assoc) (omega arith)));
        new = λ x. horner n (a ∷ x ∷ c ∷ d ∷ []) ∙ simp (add-mul, mul-one, mul_assoc) (omega arith);
      }

  parts_2 : at r 1 ≡ at n 1 → at r 3 ≡ at n 3 → Parted n r 2 (at (strides n) 2) (place r i) i
  unfolding strides span
  parts_2 e1 e3 =
      record {
        outer = a * at n 1 + b;
        inner = d;
        low = omega (arith, rw e3 at t.i3);
        row = t.i2;
        is = horner r i ∙ (rw (e1, e3) (simp (add-mul, mul-one, mul_assoc) (omega arith)));
        new = λ x. horner n (a ∷ b ∷ x ∷ d ∷ []) ∙ simp (add-mul, mul-one, mul_assoc) (omega arith);
      }

  parts_3 : at r 1 ≡ at n 1 → at r 2 ≡ at n 2 → Parted n r 3 (at (strides n) 3) (place r i) i
  unfolding strides span
  parts_3 e1 e2 =
      record {
        outer = (a * at n 1 + b) * at n 2 + c;
        inner = 0;
        low = omega arith;
        row = t.i3;
        is = horner r i ∙ (rw (e1, e2) (simp (add-mul, mul-one, mul_assoc) (omega arith)));
        new = λ x. horner n (a ∷ b ∷ c ∷ x ∷ []) ∙ simp (add-mul, mul-one, mul_assoc) (omega arith);
      }

  one≢ : {x y : ℕ} → x < y → x ≡ y → ⊥
  one≢ h e = omega arith

  two≢ : {x y : ℕ} → x < y → y ≡ x → ⊥
  two≢ h e = omega arith

  far : {v : ℕ} → suc (suc (suc (suc v))) < 4 → ⊥
  far h = omega arith

  parts_any : (v : ℕ) → v < 4 → Others v r n → Parted n r v (at (strides n) v) (place r i) i
  parts_any zero h o = parts_0 (o 1 (lit< tt) (two≢ (lit< tt))) (o 2 (lit< tt) (two≢ (lit< tt))) (o 3 (lit< tt) (two≢ (lit< tt)))
  parts_any (suc zero) h o = parts_1 (o 2 (lit< tt) (two≢ (lit< tt))) (o 3 (lit< tt) (two≢ (lit< tt)))
  parts_any (suc (suc zero)) h o = parts_2 (o 1 (lit< tt) (one≢ (lit< tt))) (o 3 (lit< tt) (two≢ (lit< tt)))
  parts_any (suc (suc (suc zero))) h o = parts_3 (o 1 (lit< tt) (one≢ (lit< tt))) (o 2 (lit< tt) (one≢ (lit< tt)))
  parts_any (suc (suc (suc (suc v)))) h o = absurd (far h)

parted : (n r : List ℕ) (v p : ℕ) → v < 4 → Others v r n → Lengths r → p < count r → Parted n r v (at (strides n) v) p (index r p)
unfolding index
parted n r v p h o g l = rw (place-index r p) at (parts_any n r _ _ _ _ (index-inside r p g l) v h o)

-- the place p of a result with the lengths r, in a part of `step` places, from parts of `width`
pub record Sits (n r : List ℕ) (v s width step p : ℕ) : Type 0 where
  pub outer : ℕ
  pub inner : ℕ
  pub low : inner < s
  pub row : at (index r p) v < at r v
  pub div : p / step ≡ outer
  pub rest : p % step ≡ at (index r p) v * s + inner
  pub new : (x : ℕ) → place n (set (index r p) v x) ≡ outer * width + (x * s + inner)

regroup : (o k x s l : ℕ) → (o * k + x) * s + l ≡ o * (k * s) + (x * s + l)
regroup o k x s l = simp (add-mul, mul_assoc) (omega arith)

pub sits : {n r : List ℕ} {v p : ℕ} (s width step : ℕ) → v < 4 → Others v r n → Lengths r → p < count r
    → s ≡ at (strides n) v → width ≡ at n v * s → step ≡ at r v * s → Sits n r v s width step p
sits {n} {r} {v} {p} s width step h o g l es ew ep =
    let t : Parted n r v s p (index r p) = rw es (parted n r v p h o g l) in
    let x : ℕ = at (index r p) v in
    let q : x * s + t.inner < step = rw ep (digits_lt t.row t.low) in
    let e : p ≡ t.outer * step + (x * s + t.inner) = rw ep (t.is ∙ regroup t.outer (at r v) x s t.inner) in
    record {
      outer = t.outer;
      inner = t.inner;
      low = t.low;
      row = t.row;
      div = ap (λ (y : ℕ). y / step) e ∙ digits_div t.outer q;
      rest = ap (λ (y : ℕ). y % step) e ∙ digits_mod t.outer q;
      new = λ y. rw ew (t.new y ∙ regroup t.outer (at n v) y s t.inner);
    }
