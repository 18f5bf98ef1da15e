-- The rearrangement between rows and columns: a bijection of places, and its own inverse on the transposed lengths; and
-- a last length of 1 may as well stand first.
use Prim.Native.Nat.{ℕ, ◌+◌, ◌*◌, ◌/◌, ◌%◌, ◌<◌}
use mathlib.Core.List.{List, [], ◌∷◌}
use Rattle.std.specs.Prelude.{◌≡◌, refl}
use Rattle.std.proofs.Math.Path.{sym, ap}
use Rattle.std.proofs.Common.{ap₂, ◌∙◌, arith, add_comm, add-zero, mul_comm, mul_assoc, mul-zero, mul-one, one-mul}
use Rattle.std.proofs.Math.Nat.{div-one, mod-one, div-eq_of_lt, mod-eq_of_lt}
use Rattle.lists.specs.Four.{at}
use Rattle.model.specs.Header.{count}
use Rattle.model.specs.Places.{place, index}
use Rattle.shape_words.specs.Lengths.{Lengths, Inside, count-is}
use Rattle.shape_words.specs.Places.{horner, place-lt, index-inside, index-place, place-index}
use Rattle.npy_grammar.specs.Text.{columns}
use Rattle.npy_files.specs.Values.{column_place, file_place}

-- the transposed lengths, and a transposed index
abbrev pub turned : List ℕ → List ℕ
turned n = at n 3 ∷ at n 2 ∷ at n 1 ∷ at n 0 ∷ []

swap : (p q r p' : ℕ) → p ≡ p' → p * q + r ≡ r + q * p'
swap p q r p' e = add_comm (p * q) r ∙ ap (λ (x : ℕ). r + x) (mul_comm p q ∙ ap (λ (x : ℕ). q * x) e)

-- Horner's rule read from the other end
other_end : (a b c d x y z : ℕ) → ((d * z + c) * y + b) * x + a ≡ a + x * (b + y * (c + z * d))
other_end a b c d x y z = swap ((d * z + c) * y + b) x a _ (swap (d * z + c) y b _ (swap d z c d refl))

-- column order is row order of the transposed lengths
pub column_place_lem : (n i : List ℕ) → column_place n i ≡ place (turned n) (turned i)
unfolding column_place
column_place_lem n i = sym (horner (turned n) (turned i) ∙ other_end (at i 0) (at i 1) (at i 2) (at i 3) (at n 0) (at n 1) (at n 2))

pub inside-turned : {n i : List ℕ} → Inside n i → Inside (turned n) (turned i)
inside-turned h = record { i0 = h.i3; i1 = h.i2; i2 = h.i1; i3 = h.i0 }

four-turned : (a b c d : ℕ) → d * (c * (b * a)) ≡ a * (b * (c * d))
four-turned a b c d =
    sym (mul_assoc d c (b * a)) ∙ (mul_comm (d * c) (b * a) ∙ (ap₂ (λ (x y : ℕ). x * y) (mul_comm b a) (mul_comm d c) ∙ mul_assoc a b (c * d)))

pub count-turned : (n : List ℕ) → count (turned n) ≡ count n
count-turned n = count-is (turned n) ∙ (four-turned (at n 0) (at n 1) (at n 2) (at n 3) ∙ sym (count-is n))

pub lengths-turned : {n : List ℕ} → Lengths n → Lengths (turned n)
lengths-turned g =
    record { p0 = g.p3; p1 = g.p2; p2 = g.p1; p3 = g.p0; m0 = g.m3; m1 = g.m2; m2 = g.m1; m3 = g.m0 }

pub column-lt : {n i : List ℕ} → Inside n i → column_place n i < count n
column-lt {n} {i} h = rw (column_place_lem n i, ← count-turned n) (place-lt (turned n) (turned i) (inside-turned h))

-- ---- a bijection

module _ (n : List ℕ) (g : Lengths n) (p : ℕ) (h : p < count n) where
  pub columns-lt : file_place columns n p < count n
  unfolding file_place
  columns-lt = column-lt {n = n} {i = index n p} (index-inside n p g h)

  -- its own inverse on the transposed lengths
  pub columns-back : file_place columns (turned n) (file_place columns n p) ≡ p
  unfolding file_place
  columns-back =
      let i : List ℕ = index n p in
      ap (λ (x : ℕ). column_place (turned n) (index (turned n) x)) (column_place_lem n i)
      ∙ (ap (column_place (turned n)) (index-place (turned n) (turned i) (inside-turned (index-inside n p g h)))
      ∙ (column_place_lem (turned n) (turned i)
      ∙ (horner (turned (turned n)) (turned (turned i)) ∙ (sym (horner n i) ∙ place-index n p))))

-- and every number of a value is that of a place
pub columns_onto : (n : List ℕ) → Lengths n → (q : ℕ) → q < count n → file_place columns n (file_place columns (turned n) q) ≡ q
unfolding file_place index column_place
columns_onto n g q h = columns-back (turned n) (lengths-turned g) q (rw (count-turned n) h)

-- ---- a last length of 1 stands first: the same places, and longer rows

pub record SamePlaces (n r : List ℕ) : Type 0 where
  pub lengths : Lengths r
  pub many : count r ≡ count n
  pub same : (p : ℕ) → p < count n → file_place columns r p ≡ file_place columns n p

pub same-itself : {n : List ℕ} → Lengths n → SamePlaces n n
same-itself g = record { lengths = g; many = refl; same = λ p h. refl }

pub same_then : {n r s : List ℕ} → SamePlaces n r → SamePlaces r s → SamePlaces n s
same_then {n} {r} {s} a b =
    record {
      lengths = b.lengths;
      many = b.many ∙ a.many;
      same = λ p h. b.same p (rw a.many h) ∙ a.same p h;
    }

abbrev pub rolled : List ℕ → List ℕ
rolled n = 1 ∷ at n 0 ∷ at n 1 ∷ at n 2 ∷ []

module _ (n : List ℕ) (g : Lengths n) (one : at n 3 ≡ 1) where
  rolled-many : count (rolled n) ≡ count n
  rolled-many =
      count-is (rolled n)
      ∙ (one-mul (at n 0 * (at n 1 * at n 2))
      ∙ sym (count-is n ∙ ap (λ (x : ℕ). at n 0 * (at n 1 * x)) (ap (λ (x : ℕ). at n 2 * x) one ∙ mul-one (at n 2))))

  rolled-at : (p : ℕ) → p < count n → file_place columns (rolled n) p ≡ file_place columns n p
  unfolding file_place index column_place
  rolled-at p h =
      let r : ℕ = p / at n 2 / at n 1 in
      let l : r < at n 0 = first p h in
      let x : ℕ = p / at n 2 % at n 1 + at n 1 * (p % at n 2) in
      let a : r / at n 0 + 1 * (r % at n 0 + at n 0 * x) ≡ r + at n 0 * x =
      rw (div-eq_of_lt l, mod-eq_of_lt l) (omega arith) in
      let b : r + at n 0 * x ≡ r + at n 0 * (p / at n 2 % at n 1 + at n 1 * (p % at n 2 + at n 2 * 0)) = simp (mul-zero, add-zero) in
      a ∙ (b ∙ sym (rw (one, div-one p, mod-one p)))
    where
      first : (p : ℕ) → p < count n → p / at n 2 / at n 1 < at n 0
      first p h = rw (one, div-one p) at (index-inside n p g h).i0

  pub same-rolled : SamePlaces n (rolled n)
  same-rolled =
      record {
        lengths =
            record {
              p0 = omega arith;
              p1 = g.p0;
              p2 = g.p1;
              p3 = g.p2;
              m0 = omega arith;
              m1 = g.m0;
              m2 = g.m1;
              m3 = g.m2;
            };
        many = rolled-many;
        same = rolled-at;
      }
