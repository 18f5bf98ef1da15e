-- Bytes of words, and the loops over them.
use Prim.Native.Nat.{ℕ, zero, suc, ◌+◌, ◌*◌, ◌/◌, ◌%◌, ◌^◌, ◌≤◌, ◌<◌}
use Rattle.std.specs.Prelude.{List, [], ◌∷◌, ◌++◌, ◌≡◌, refl, eqb, length, get_or, take, Float}
use Rattle.std.proofs.Common.{append_assoc, append-nil, ◌∙◌, add-one, mul_comm, length-append, take-suc, take_all}
use Rattle.std.proofs.Common.{length-take-le, shr-shr, shl_exact, pow-add, eq-eqb, ne_eqb}
use Rattle.std.proofs.Math.Path.{sym, ap}
use native.Mathlib.Omega.{arith}
use Rattle.std.specs.Float.{nan, binary64}
use Rattle.std.specs.Float.Ieee.{to_bits}
use Rattle.std.proofs.Math.Arith.{digits_lt}
use Rattle.std.specs.Int.{to_le_bytes, w64}
use Rattle.std.specs.Int.Bits.{bit_or, or_shifted_r}
use Rattle.std.specs.Cmp.Lexicographic.{pointwise}
use Rattle.std.proofs.Common.{eqb-true}
use Rattle.std.proofs.lemmas.Bool.{eqb-false}
use Rattle.lists.specs.Test.{decide}
use Rattle.lists.specs.Table.{table}
use Rattle.npy_files.specs.Frame.{byte_at, little, starts_with}
use Rattle.npy_files.specs.Writes.{low_bytes, data_out}
use Rattle.sheet_text.specs.Put.{Put, put-none, put_then}

-- ---- the opening bytes

eqb_swap : (a b : ℕ) → eqb a b ≡ eqb b a
eqb_swap a b = decide (eqb a b) (λ e. e ∙ sym (eq-eqb b a (sym (eqb-true a b e)))) (λ e. e ∙ sym (ne_eqb b a (λ f. eqb-false a b e (sym f))))

-- the test of the library
pub starts-pointwise : (w t : List ℕ) → pointwise eqb w (take (length w) t) ≡ starts_with w t
unfolding starts_with
starts-pointwise [] t = refl
starts-pointwise (x ∷ w) [] = refl
starts-pointwise (x ∷ w) (b ∷ t) = rw (eqb_swap x b, starts-pointwise w t)

-- ---- numbers

-- a byte above k bits
pub joined_is : (low b k : ℕ) → low < 2 ^ k → b ≤ 255 → k ≤ 56
    → (bit_or low (b * 2 ^ k % 2 ^ 64) ≡ b * 2 ^ k + low) × (bit_or low (b * 2 ^ k % 2 ^ 64) < 2 ^ (k + 8))
joined_is low b k h l m =
    let e : b * 2 ^ k % 2 ^ 64 ≡ b * 2 ^ k = shl_exact {a = b} 8 k 64 (omega arith) (omega arith) in
    let f : bit_or low (b * 2 ^ k % 2 ^ 64) ≡ b * 2 ^ k + low = rw e (or_shifted_r b k low h) in
    let g : 2 ^ (k + 8) ≡ 256 * 2 ^ k = pow-add 2 k 8 ∙ mul_comm (2 ^ k) 256 in
    (f, rw (f, g) (digits_lt (omega arith) h))

pub little-two : (t : List ℕ) (p : ℕ) {a b : ℕ} → a ≡ byte_at t p → b ≡ byte_at t (p + 1) → a + 256 * b ≡ little 2 t p
unfolding little
little-two t p e f = let k : p + 1 ≡ suc p = omega arith in omega (arith, e, f ∙ ap (byte_at t) k)

pub little-four : (t : List ℕ) (p : ℕ) {a b c d : ℕ} → a ≡ byte_at t p → b ≡ byte_at t (p + 1) → c ≡ byte_at t (p + 2) → d ≡ byte_at t (p + 3)
    → a + 256 * b + 65536 * c + 16777216 * d ≡ little 4 t p
unfolding little
little-four t p ea eb ec ed =
    let k1 : p + 1 ≡ suc p = omega arith in
    let k2 : p + 2 ≡ suc (suc p) = omega arith in
    let k3 : p + 3 ≡ suc (suc (suc p)) = omega arith in
    omega (arith, ea, eb ∙ ap (byte_at t) k1, ec ∙ ap (byte_at t) k2, ed ∙ ap (byte_at t) k3)

module _ (t : List ℕ) (p : ℕ) {a b c d e f g h : ℕ} (ea : a ≡ byte_at t p) (eb : b ≡ byte_at t (p + 1)) (ec : c ≡ byte_at t (p + 2)) (ed : d
    ≡ byte_at t (p + 3))
    (ee : e ≡ byte_at t (p + 4)) (ef : f ≡ byte_at t (p + 5)) (eg : g ≡ byte_at t (p + 6)) (eh : h ≡ byte_at t (p + 7)) where
  pub little-eight : a + 256 * b + 65536 * c + 16777216 * d + 4294967296 * e + 1099511627776 * f + 281474976710656 * g + 72057594037927936 * h ≡ little 8 t p
  unfolding little
  little-eight =
      let k1 : p + 1 ≡ suc p = omega arith in
      let k2 : p + 2 ≡ suc (suc p) = omega arith in
      let k3 : p + 3 ≡ suc (suc (suc p)) = omega arith in
      let k4 : p + 4 ≡ suc (suc (suc (suc p))) = omega arith in
      let k5 : p + 5 ≡ suc (suc (suc (suc (suc p)))) = omega arith in
      let k6 : p + 6 ≡ suc (suc (suc (suc (suc (suc p))))) = omega arith in
      let k7 : p + 7 ≡ suc (suc (suc (suc (suc (suc (suc p)))))) = omega arith in
      omega (
        arith,
        ea,
        eb ∙ ap (byte_at t) k1,
        ec ∙ ap (byte_at t) k2,
        ed ∙ ap (byte_at t) k3,
        ee ∙ ap (byte_at t) k4,
        ef
            ∙ ap (byte_at t) k5,
        eg ∙ ap (byte_at t) k6,
        eh ∙ ap (byte_at t) k7,
      )

-- ---- eight bytes, one after the other

-- byte number k of a word, the lowest first
abbrev pub byte_low : ℕ → ℕ → ℕ
byte_low w k = w / 2 ^ (8 * k) % 256

eights : (n : ℕ) → 8 + 8 * n ≡ 8 * suc n
eights n = omega arith

low_snoc : (n w : ℕ) → low_bytes (suc n) w ≡ low_bytes n w ++ (byte_low w n ∷ [])
unfolding low_bytes
low_snoc zero w = let e : w / 2 ^ (8 * 0) ≡ w = omega arith in rw e
low_snoc (suc n) w =
    let e : w / 256 / 2 ^ (8 * n) ≡ w / 2 ^ (8 * suc n) = shr-shr w 8 (8 * n) ∙ ap (λ (k : ℕ). w / 2 ^ k) (eights n) in
    ap (λ (l : List ℕ). w % 256 ∷ l) (low_snoc n (w / 256) ∙ ap (λ (x : ℕ). low_bytes n (w / 256) ++ (x % 256 ∷ [])) e)

pub low-table : (n w : ℕ) → table n (byte_low w) ≡ low_bytes n w
unfolding low_bytes table
low-table zero w = refl
low-table (suc n) w = ap (λ (l : List ℕ). l ++ (byte_low w n ∷ [])) (low-table n w) ∙ sym (low_snoc n w)

-- as the library has them
pub le-low : (w : ℕ) → to_le_bytes w64 w ≡ low_bytes 8 w
unfolding table
le-low w = let e : w / 1 ≡ w = omega arith in rw e at (low-table 8 w)

pub length-low : (n w : ℕ) → length (low_bytes n w) ≡ n
unfolding low_bytes
length-low zero w = refl
length-low (suc n) w = ap suc (length-low n (w / 256))

-- ---- the loop that puts floats

pub length_data : (xs : List Float) → length (data_out xs) ≡ 8 * length xs
unfolding data_out
length_data [] = refl
length_data (x ∷ xs) = omega (arith, length-append (low_bytes 8 (to_bits binary64 x)) (data_out xs), length-low 8 (to_bits binary64 x), length_data xs)

data_snoc : (xs : List Float) (x : Float) → data_out (xs ++ (x ∷ [])) ≡ data_out xs ++ low_bytes 8 (to_bits binary64 x)
unfolding data_out
data_snoc [] x = append-nil (low_bytes 8 (to_bits binary64 x))
data_snoc (y ∷ xs) x =
    ap (λ (l : List ℕ). low_bytes 8 (to_bits binary64 y) ++ l) (data_snoc xs x)
    ∙ sym (append_assoc (low_bytes 8 (to_bits binary64 y)) (data_out xs) (low_bytes 8 (to_bits binary64 x)))

-- after k floats
pub record PutData (xs : List Float) (at : ℕ) (old new : List ℕ) (next k : ℕ) : Type 0 where
  pub most : k ≤ length xs
  pub put : Put at (data_out (take k xs)) old new next

pub data-none : (xs : List Float) (at : ℕ) (old : List ℕ) → at ≤ length old → PutData xs at old old at 0
unfolding data_out
data-none xs at old h = record { most = omega arith; put = put-none at old h }

module _ {xs : List Float} {at : ℕ} {old new : List ℕ} {next k : ℕ} (p : PutData xs at old new next k) where
  pub data-next : next ≡ at + 8 * k
  data-next = omega (arith, p.put.behind, length_data (take k xs), length-take-le k xs p.most)

  pub data-more : {w end : ℕ} {new' : List ℕ} → k < length xs → w ≡ to_bits binary64 (get_or xs k nan)
      → Put next (low_bytes 8 w) new new' end → PutData xs at old new' end (k + 1)
  data-more {w} l e q =
      record { most = omega arith; put = rw (add-one k, take-suc xs k nan l, data_snoc (take k xs) (get_or xs k nan), ← e) (put_then p.put q) }

  pub data_end : length xs ≤ k → Put at (data_out xs) old new next
  data_end l = rw (take_all k xs l) at p.put
