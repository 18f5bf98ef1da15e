-- The sentences of faults: which causes have one, how long they are, and that they keep to 80 columns.
use Rattle.std.specs.Prelude.{ℕ, zero, suc, ◌+◌, ◌%◌, ◌≤◌, true, false, List, [], ◌∷◌, ◌++◌, ◌≡◌, refl, length, get_or}
use Rattle.std.proofs.Common.{arith, length-append, leb-true, ne_eqb}
use Rattle.lists.specs.Bytes.{bytes}
use Rattle.model_texts.specs.Printed.{decimal}
use Rattle.model_texts.specs.Cause.{cause_fronts, named, cause_backs, cause_text}
use Rattle.report_lines.specs.Columns.{in_columns, column_after, columns_append, columns-earlier, Piece, piece, piece-columns, one-digit}

-- no other cause has one

pub no_front : (c : ℕ) → (c ≡ 1 → ⊥) → (c ≡ 2 → ⊥) → (c ≡ 3 → ⊥) → (c ≡ 4 → ⊥) → (c ≡ 5 → ⊥) → [] ≡ bytes (get_or cause_fronts c "")
unfolding cause_fronts bytes
no_front zero a b d e f = refl
no_front (suc zero) a b d e f = absurd (a refl)
no_front (suc (suc zero)) a b d e f = absurd (b refl)
no_front (suc (suc (suc zero))) a b d e f = absurd (d refl)
no_front (suc (suc (suc (suc zero)))) a b d e f = absurd (e refl)
no_front (suc (suc (suc (suc (suc zero))))) a b d e f = absurd (f refl)
no_front (suc (suc (suc (suc (suc (suc c)))))) a b d e f = refl

pub no-back : (c : ℕ) → (c ≡ 2 → ⊥) → (c ≡ 3 → ⊥) → [] ≡ bytes (get_or cause_backs c "")
unfolding cause_backs bytes
no-back zero a b = refl
no-back (suc zero) a b = refl
no-back (suc (suc zero)) a b = absurd (a refl)
no-back (suc (suc (suc zero))) a b = absurd (b refl)
no-back (suc (suc (suc (suc c)))) a b = refl

digit_piece : (v : ℕ) → Piece 1 (decimal (v % 10))
digit_piece v = one-digit (v % 10) (omega arith)

-- a variable between two texts, from column 28 on: the first of them has n bytes
around : (n : ℕ) (s t : List ℕ) (v : ℕ) → Piece n s → n ≤ 23 → in_columns (29 + n) t ≡ true → in_columns 28 (s ++ (decimal (v % 10) ++ t)) ≡ true
around n s t v p few q =
    let d = digit_piece v in
    let x = piece-columns s 28 p.plain (omega (arith, p.most)) in
    let y = piece-columns (decimal (v % 10)) (28 + length s) d.plain (omega (arith, p.most, d.most)) in
    columns_append 28 s (decimal (v % 10) ++ t) x.0
    (rw x.1
    (columns_append (28 + length s) (decimal (v % 10)) t y.0
    (columns-earlier t (column_after (28 + length s) (decimal (v % 10))) (29 + n) (omega (arith, y.1, p.most, d.most)) q)))

-- any other cause has no sentence
none_named : (c : ℕ) → named (suc (suc (suc (suc (suc (suc c)))))) ≡ false
none_named c =
    simp (
      ne_eqb (suc (suc (suc (suc (suc (suc c)))))) 2 (λ e. omega (arith, e)),
      ne_eqb (suc (suc (suc (suc (suc (suc c)))))) 3 (λ e. omega (arith, e)),
    )

none_told : (v c : ℕ) → cause_text v (suc (suc (suc (suc (suc (suc c)))))) ≡ []
unfolding cause_text cause_fronts cause_backs bytes
none_told v c = rw (none_named c)

-- behind at most 28 columns
pub cause-columns : (v c : ℕ) → in_columns 28 (cause_text v c) ≡ true
unfolding cause_text cause_fronts cause_backs bytes in_columns column_after
cause-columns v zero = refl
cause-columns v (suc zero) = refl
cause-columns v (suc (suc zero)) =
    around 23 (bytes "the length of variable ") (bytes " is above its limit;\nlower the length or raise the limit.\n") v
    (piece 23 (bytes "the length of variable ") refl) (omega arith) refl
cause-columns v (suc (suc (suc zero))) =
    around 9 (bytes "variable ") (bytes " is missing, but its fields are not zero;\nclear them, or count it among the variables.\n") v
    (piece 9 (bytes "variable ") refl) (omega arith) refl
cause-columns v (suc (suc (suc (suc zero)))) = refl
cause-columns v (suc (suc (suc (suc (suc zero))))) = refl
cause-columns v (suc (suc (suc (suc (suc (suc c)))))) = rw (none_told v c) refl

between : (s t : List ℕ) (v : ℕ) → length s + length t ≤ 109 → length (s ++ (decimal (v % 10) ++ t)) ≤ 110
between s t v h = omega (arith, length-append s (decimal (v % 10) ++ t), length-append (decimal (v % 10)) t, (digit_piece v).most)

pub cause-length : (v c : ℕ) → length (cause_text v c) ≤ 110
unfolding cause_text cause_fronts cause_backs bytes
cause-length v zero = leb-true _ _ refl
cause-length v (suc zero) = leb-true _ _ refl
cause-length v (suc (suc zero)) =
    between (bytes "the length of variable ") (bytes " is above its limit;\nlower the length or raise the limit.\n") v (leb-true _ _ refl)
cause-length v (suc (suc (suc zero))) =
    between (bytes "variable ") (bytes " is missing, but its fields are not zero;\nclear them, or count it among the variables.\n") v (leb-true _ _ refl)
cause-length v (suc (suc (suc (suc zero)))) = leb-true _ _ refl
cause-length v (suc (suc (suc (suc (suc zero))))) = leb-true _ _ refl
cause-length v (suc (suc (suc (suc (suc (suc c)))))) = rw (none_told v c) (omega arith)
