-- The end of a text: it keeps to 80 columns where k are left, and how long it is. Unlike `Rest` it may be empty.
use Rattle.std.specs.Prelude.{ℕ, ◌+◌, ◌-◌, ◌≤◌, Bool, true, ◌&&◌, cond, List, [], ◌++◌, ◌≡◌, refl, leb, length}
use Prim.Native.String.{String}
use Rattle.std.proofs.Common.{arith, length-append, leb-true}
use Rattle.lists.specs.Bytes.{bytes}
use Rattle.lists.specs.Test.{of-both, and_left, and_right}
use Rattle.model_texts.specs.Printed.{decimal}
use Rattle.model_faults.specs.Saying.{say, say_two, unless}
use Rattle.report_lines.specs.Columns.{in_columns, columns_append, columns-earlier, Piece, piece_then, piece-columns}

pub record Fits (k n : ℕ) (t : List ℕ) : Type 0 where
  pub most : length t ≤ n
  pub keeps : (c : ℕ) → c + k ≤ 80 → in_columns c t ≡ true

pub fits-up : {j k m n : ℕ} {t : List ℕ} → Fits j m t → j ≤ k → m ≤ n → Fits k n t
fits-up f a b = record { most = omega (arith, f.most); keeps = λ c l. f.keeps c (omega arith) }

pub fits-none : {k n : ℕ} → Fits k n []
unfolding in_columns
fits-none = record { most = omega arith; keeps = λ c l. refl }

-- as one can count
pub fits-text : (k n : ℕ) (t : List ℕ) → (leb (length t) n && in_columns (80 - k) t) ≡ true → Fits k n t
fits-text k n t e =
    record {
      most = leb-true _ _ (and_left (leb (length t) n) (in_columns (80 - k) t) e);
      keeps = λ c l. columns-earlier t c (80 - k) (omega arith) (and_right (leb (length t) n) (in_columns (80 - k) t) e);
    }

pub fits_then : {j k n : ℕ} {s t : List ℕ} → Piece j s → Fits k n t → Fits (j + k) (j + n) (s ++ t)
fits_then {j} {k} {n} {s} {t} p f =
    record {
      most = omega (arith, length-append s t, p.most, f.most);
      keeps = λ c l.
          let q = piece-columns s c p.plain (omega (arith, p.most)) in
          columns_append c s t q.0 (rw q.1 (f.keeps (c + length s) (omega (arith, p.most))));
    }

pub fits-either : {k n : ℕ} (b : Bool) {s t : List ℕ} → Fits k n s → Fits k n t → Fits k n (cond b s t)
fits-either {k} {n} b p q = of-both (Fits k n) b p q

pub fits-unless : {k n : ℕ} (b : Bool) {s t : List ℕ} → Fits k n s → Fits k n t → Fits k n (unless b s t)
fits-unless b p q = fits-either b q p

-- a phrase, a number, a phrase; and two numbers
pub fits-say : {a d k n : ℕ} (s : String) (x : ℕ) (e : String) → Piece a (bytes s) → Piece d (decimal x) → Fits k n (bytes e)
    → Fits (a + d + k) (a + d + n) (say s x e)
fits-say s x e p q f = fits_then (piece_then p q) f

pub fits-two : {a d b i k n : ℕ} (s : String) (x : ℕ) (m : String) (y : ℕ) (e : String) → Piece a (bytes s) → Piece d (decimal x)
    → Piece b (bytes m) → Piece i (decimal y) → Fits k n (bytes e) → Fits (a + d + (b + i + k)) (a + d + (b + i + n)) (say_two s x m y e)
fits-two s x m y e p q r o f = fits_then (piece_then p q) (fits-say m y e r o f)
