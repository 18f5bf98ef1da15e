-- Texts that keep to 80 columns, and how long they are: pieces of a line, the rest of a line, and lines.
use Rattle.std.specs.Prelude.{ℕ, zero, suc, ◌+◌, ◌*◌, ◌/◌, ◌^◌, ◌≤◌, ◌<◌, Bool, true, false, ◌&&◌, not, cond, List}
use Rattle.std.specs.Prelude.{[], ◌∷◌, ◌++◌, ◌≡◌, refl, leb, ltb, eqb, length, get_or}
use Prim.Native.String.{String}
use Rattle.std.proofs.Common.{append_assoc, ◌∙◌, arith, suc-mul, length-append, leb-true, le-leb, ne_eqb}
use Rattle.lists.specs.Bytes.{bytes}
use Rattle.lists.specs.Table.{table}
use Rattle.lists.specs.Test.{decide, of-both, and_left, and_right}
use Rattle.model_texts.specs.Printed.{last_digit, digits, decimal}
use Rattle.model_texts.specs.Report.{tell, when, joined}
use Rattle.sheet_text.specs.Decimal.{decimal-most}

-- the column behind a byte that stands at the column c: a newline goes back to 0
abbrev pub onward : ℕ → ℕ → ℕ
onward c b = cond (eqb b 10) 0 (suc c)

-- a text that begins at the column c keeps to 80 columns; the column behind it
unfoldable pub in_columns : ℕ → List ℕ → Bool
in_columns c [] = true
in_columns c (b ∷ t) = leb (onward c b) 80 && in_columns (onward c b) t

unfoldable pub column_after : ℕ → List ℕ → ℕ
column_after c [] = c
column_after c (b ∷ t) = column_after (onward c b) t

-- 80 letters keep to them, 81 do not; after a newline there is room again
pub column_examples : (in_columns 0 (table 80 (λ k. 97)) ≡ true)
    × ((in_columns 0 (table 81 (λ k. 97)) ≡ false) × (in_columns 0 (table 80 (λ k. 97) ++ (10 ∷ table 80 (λ k. 97))) ≡ true))
unfolding in_columns table
column_examples = (refl, (refl, refl))

-- one text after the other
column_append : (c : ℕ) (s t : List ℕ) → column_after c (s ++ t) ≡ column_after (column_after c s) t
unfolding column_after
column_append c [] t = refl
column_append c (b ∷ s) t = column_append (onward c b) s t

pub columns_append : (c : ℕ) (s t : List ℕ) → in_columns c s ≡ true → in_columns (column_after c s) t ≡ true → in_columns c (s ++ t) ≡ true
unfolding in_columns column_after
columns_append c [] t p q = q
columns_append c (b ∷ s) t p q =
    rw (and_left (leb (onward c b) 80) (in_columns (onward c b) s) p)
    (columns_append (onward c b) s t (and_right (leb (onward c b) 80) (in_columns (onward c b) s) p) q)

-- a text that keeps to them from a later column on does from an earlier one
pub columns-earlier : (t : List ℕ) (c d : ℕ) → c ≤ d → in_columns d t ≡ true → in_columns c t ≡ true
unfolding in_columns
columns-earlier [] c d l p = refl
columns-earlier (b ∷ t) c d l p =
    let e : onward c b ≤ onward d b = decide (eqb b 10) (λ n. rw n (omega arith)) (λ n. rw n (omega arith)) in
    let f = leb-true (onward d b) 80 (and_left (leb (onward d b) 80) (in_columns (onward d b) t) p) in
    rw (le-leb (onward c b) 80 (omega arith)) (columns-earlier t (onward c b) (onward d b) e (and_right (leb (onward d b) 80) (in_columns (onward d b) t) p))

-- ---- a piece of a line: n bytes at most, no newline among them

abbrev pub no_newline : List ℕ → Bool
no_newline [] = true
no_newline (b ∷ t) = not (eqb b 10) && no_newline t

pub record Piece (n : ℕ) (t : List ℕ) : Type 0 where
  pub most : length t ≤ n
  pub plain : no_newline t ≡ true

pub piece : (n : ℕ) (t : List ℕ) → (leb (length t) n && no_newline t) ≡ true → Piece n t
piece n t e = record { most = leb-true _ _ (and_left (leb (length t) n) (no_newline t) e); plain = and_right (leb (length t) n) (no_newline t) e }

pub piece_up : {a b : ℕ} {t : List ℕ} → Piece a t → a ≤ b → Piece b t
piece_up p l = record { most = omega (arith, p.most); plain = p.plain }

plain_append : (s t : List ℕ) → no_newline s ≡ true → no_newline t ≡ true → no_newline (s ++ t) ≡ true
plain_append [] t p q = q
plain_append (b ∷ s) t p q = rw (and_left (not (eqb b 10)) (no_newline s) p) (plain_append s t (and_right (not (eqb b 10)) (no_newline s) p) q)

pub piece_then : {a b : ℕ} {s t : List ℕ} → Piece a s → Piece b t → Piece (a + b) (s ++ t)
piece_then {s = s} {t = t} p q = record { most = omega (arith, length-append s t, p.most, q.most); plain = plain_append s t p.plain q.plain }

pub piece-either : {a : ℕ} (b : Bool) {s t : List ℕ} → Piece a s → Piece a t → Piece a (cond b s t)
piece-either {a} b p q = of-both (Piece a) b p q

pub piece-when : {a : ℕ} (b : Bool) {t : List ℕ} → Piece a t → Piece (cond b a 0) (when b t)
piece-when true p = p
piece-when false p = piece 0 [] refl

pub piece_if : {a : ℕ} (b : Bool) {t : List ℕ} → Piece a t → Piece a (when b t)
piece_if {a} b p = piece-either b p (piece_up (piece 0 [] refl) (omega arith))

pub piece-joined : (f : ℕ → List ℕ) (a n : ℕ) → ((k : ℕ) → k < n → Piece a (f k)) → Piece (n * a) (joined f n)
unfolding joined
piece-joined f a zero h = piece_up (piece 0 [] refl) (omega arith)
piece-joined f a (suc n) h = piece_up (piece_then (piece-joined f a n (λ k l. h k (omega arith))) (h n (omega arith))) (omega (arith, suc-mul n a))

pub piece-table : (f : ℕ → ℕ) (n : ℕ) → ((k : ℕ) → f k ≡ 10 → ⊥) → Piece n (table n f)
unfolding table
piece-table f zero h = piece 0 [] refl
piece-table f (suc n) h = piece_up (piece_then (piece-table f n h) (one (f n) (h n))) (omega arith)
  where
    one : (b : ℕ) → (b ≡ 10 → ⊥) → Piece 1 (b ∷ [])
    one b h = record { most = omega arith; plain = rw (ne_eqb b 10 h) }

-- of texts that are all such pieces, any
abbrev pub all_pieces : ℕ → List String → Bool
all_pieces n [] = true
all_pieces n (s ∷ ss) = (leb (length (bytes s)) n && no_newline (bytes s)) && all_pieces n ss

pub piece-named : (n : ℕ) (ss : List String) (k : ℕ) → all_pieces n ss ≡ true → Piece n (bytes (get_or ss k ""))
unfolding bytes
piece-named n [] k e = piece_up (piece 0 [] refl) (omega arith)
piece-named n (s ∷ ss) zero e = piece n (bytes s) (and_left (leb (length (bytes s)) n && no_newline (bytes s)) (all_pieces n ss) e)
piece-named n (s ∷ ss) (suc k) e = piece-named n ss k (and_right (leb (length (bytes s)) n && no_newline (bytes s)) (all_pieces n ss) e)

-- ---- numbers

last_piece : (n : ℕ) → Piece 1 (last_digit n ∷ [])
last_piece n = record { most = omega arith; plain = rw (ne_eqb (last_digit n) 10 (λ e. omega (arith, e))) }

digits_piece : (k n : ℕ) → Piece k (digits k n)
unfolding digits
digits_piece zero n = piece 0 [] refl
digits_piece (suc k) n =
    piece-either (ltb n 10) (piece_up (last_piece n) (omega arith))
    (piece_up (piece_then (digits_piece k (n / 10)) (last_piece n)) (omega arith))

pub number_piece : (n : ℕ) → Piece 20 (decimal n)
unfolding decimal
number_piece n = digits_piece 20 n

-- k digits
pub small_piece : (k n : ℕ) → 1 ≤ k → n < 10 ^ k → k ≤ 20 → Piece k (decimal n)
small_piece k n p h l = record { most = decimal-most k n p h l; plain = (number_piece n).plain }

pub two_digits : (n : ℕ) → n < 100 → Piece 2 (decimal n)
two_digits n h = small_piece 2 n (omega arith) h (omega arith)

pub one-digit : (n : ℕ) → n < 10 → Piece 1 (decimal n)
one-digit n h = small_piece 1 n (omega arith) h (omega arith)

-- a phrase and a number of two digits
pub tell-two : {a : ℕ} (s : String) (n : ℕ) → Piece a (bytes s) → n < 100 → Piece (a + 2) (tell s n)
tell-two s n p h = piece_then p (two_digits n h)

-- ---- the rest of a line: k columns and its newline, maybe more lines; n bytes at most

pub record Rest (k n : ℕ) (t : List ℕ) : Type 0 where
  pub most : length t ≤ n
  pub keeps : (c : ℕ) → c + k ≤ 80 → in_columns c t ≡ true
  pub ends : (c : ℕ) → column_after c t ≡ 0

pub newline-rest : Rest 0 1 (10 ∷ [])
unfolding in_columns column_after
newline-rest = record { most = omega arith; keeps = λ c l. refl; ends = λ c. refl }

pub rest_up : {j k m n : ℕ} {t : List ℕ} → Rest j m t → j ≤ k → m ≤ n → Rest k n t
rest_up r a b = record { most = omega (arith, r.most); keeps = λ c l. r.keeps c (omega arith); ends = r.ends }

pub rest-either : {k n : ℕ} (b : Bool) {s t : List ℕ} → Rest k n s → Rest k n t → Rest k n (cond b s t)
rest-either {k} {n} b p q = of-both (Rest k n) b p q

-- a piece moves on by as many columns as it has bytes
pub piece-columns : (t : List ℕ) (c : ℕ) → no_newline t ≡ true → c + length t ≤ 80 → (in_columns c t ≡ true) × (column_after c t ≡ c + length t)
unfolding in_columns column_after
piece-columns [] c p l = (refl, omega arith)
piece-columns (b ∷ t) c p l =
    decide (eqb b 10)
    (λ e. absurd (not-both (rw e at (and_left (not (eqb b 10)) (no_newline t) p))))
    (λ e.
    let r = piece-columns t (suc c) (and_right (not (eqb b 10)) (no_newline t) p) (omega arith) in
    let q = le-leb (suc c) 80 (omega arith) in
    rw (e, q) (r.0, r.1 ∙ omega arith))
  where
    not-both : false ≡ true → ⊥
    not-both e = let z : ◌≡◌ {A = ℕ} 0 1 = cc in omega (arith, z)

pub rest_then : {j k n : ℕ} {s t : List ℕ} → Piece j s → Rest k n t → Rest (j + k) (j + n) (s ++ t)
rest_then {j} {k} {n} {s} {t} p r =
    record {
      most = omega (arith, length-append s t, p.most, r.most);
      keeps = λ c l.
          let q = piece-columns s c p.plain (omega (arith, p.most)) in
          columns_append c s t q.0 (rw q.1 (r.keeps (c + length s) (omega (arith, p.most))));
      ends = λ c. column_append c s t ∙ r.ends (column_after c s);
    }

-- a byte, a newline, and another line
pub rest_broken : {k n b : ℕ} {t : List ℕ} → eqb b 10 ≡ false → k ≤ 80 → Rest k n t → Rest 1 (n + 2) (b ∷ 10 ∷ t)
unfolding in_columns column_after
rest_broken {b = b} e l r =
    record {
      most = omega (arith, r.most);
      keeps = λ c h. rw e (rw (le-leb (suc c) 80 (omega arith)) (r.keeps 0 (omega arith)));
      ends = λ c. r.ends 0;
    }

-- texts put together otherwise
pub rest-shift : {k n : ℕ} (x y z : List ℕ) → Rest k n (x ++ (y ++ z)) → Rest k n ((x ++ y) ++ z)
rest-shift x y z r = rw (append_assoc x y z) r

-- ---- lines

pub record Lines (n : ℕ) (t : List ℕ) : Type 0 where
  pub most : length t ≤ n
  pub keeps : in_columns 0 t ≡ true
  pub ends : column_after 0 t ≡ 0

pub lines : {k n : ℕ} {t : List ℕ} → k ≤ 80 → Rest k n t → Lines n t
lines l r = record { most = r.most; keeps = r.keeps 0 (omega arith); ends = r.ends 0 }

-- as one can count
pub written : (n : ℕ) (t : List ℕ) → (leb (length t) n && in_columns 0 t) ≡ true → column_after 0 t ≡ 0 → Lines n t
written n t e z =
    record {
      most = leb-true _ _ (and_left (leb (length t) n) (in_columns 0 t) e);
      keeps = and_right (leb (length t) n) (in_columns 0 t) e;
      ends = z;
    }

pub lines-up : {a b : ℕ} {t : List ℕ} → Lines a t → a ≤ b → Lines b t
lines-up p l = record { most = omega (arith, p.most); keeps = p.keeps; ends = p.ends }

pub lines_none : Lines 0 []
unfolding in_columns column_after
lines_none = record { most = omega arith; keeps = refl; ends = refl }

pub lines_then : {a b : ℕ} {s t : List ℕ} → Lines a s → Lines b t → Lines (a + b) (s ++ t)
lines_then {s = s} {t = t} p q =
    record {
      most = omega (arith, length-append s t, p.most, q.most);
      keeps = columns_append 0 s t p.keeps (rw p.ends q.keeps);
      ends = column_append 0 s t ∙ rw p.ends q.ends;
    }

pub lines-either : {a : ℕ} (b : Bool) {s t : List ℕ} → Lines a s → Lines a t → Lines a (cond b s t)
lines-either {a} b p q = of-both (Lines a) b p q

pub lines_if : {a : ℕ} (b : Bool) {t : List ℕ} → Lines a t → Lines a (when b t)
lines_if b p = lines-either b p (lines-up lines_none (omega arith))

pub lines-joined : (f : ℕ → List ℕ) (a n : ℕ) → ((k : ℕ) → k < n → Lines a (f k)) → Lines (n * a) (joined f n)
unfolding joined
lines-joined f a zero h = lines-up lines_none (omega arith)
lines-joined f a (suc n) h = lines-up (lines_then (lines-joined f a n (λ k l. h k (omega arith))) (h n (omega arith))) (omega (arith, suc-mul n a))
