-- A printed float is a piece of a line: 31 bytes at most, and no newline among them.
use Rattle.std.specs.Prelude.{ℕ, zero, suc, ◌/◌, ◌%◌, ◌^◌, Bool, not, ◌&&◌, [], ◌∷◌, ◌≡◌, refl, ltb, eqb, Float}
use Rattle.std.proofs.Common.{arith, ne_eqb}
use Rattle.std.specs.Float.Ieee.{to_bits}
use Rattle.std.specs.Float.{binary64}
use Rattle.lists.specs.Bytes.{bytes}
use Rattle.lists.specs.Test.{decide}
use Rattle.model_texts.specs.Hex.{digit_for, hex_digit}
use Rattle.model_texts.specs.Number.{exponent_of, hex_text}
use Rattle.model_texts.specs.Printed.{last_digit}
use Rattle.model_decimals.specs.Value.{minus_of, units_of}
use Rattle.model_decimals.specs.Text.{billionths, is_exact, places, trimmed_places, point_text, rounded_text}
use Rattle.model_decimals.specs.Text.{endless_text, bits_text, float_word_text, float_text}
use Rattle.decimals.specs.Long.{float-length}
use Rattle.report_lines.specs.Columns.{Piece, piece, piece_up, piece_then, piece-either, piece_if, piece-table, number_piece}

digit-plain : (d : ℕ) → digit_for d ≡ 10 → ⊥
unfolding digit_for
digit-plain d e = decide (ltb d 10) (λ t. omega (arith, rw t at e)) (λ t. omega (arith, rw t at e))

last_piece : (n : ℕ) → Piece 1 (last_digit n ∷ [])
last_piece n = record { most = omega arith; plain = rw (ne_eqb (last_digit n) 10 (λ e. omega (arith, e))) }

places_piece : (k n : ℕ) → Piece k (places k n)
unfolding places
places_piece zero n = piece 0 [] refl
places_piece (suc k) n = piece_up (piece_then (places_piece k (n / 10)) (last_piece n)) (omega arith)

trimmed_piece : (k n : ℕ) → Piece k (trimmed_places k n)
unfolding trimmed_places
trimmed_piece zero n = piece 0 [] refl
trimmed_piece (suc k) n =
    piece-either (eqb (n % 10) 0) (piece_up (trimmed_piece k (n / 10)) (omega arith)) (places_piece (suc k) n)

point_piece : (n : ℕ) → Piece 10 (point_text n)
unfolding point_text
point_piece n =
    piece-either (eqb n 0) (piece_up (piece 0 [] refl) (omega arith)) (piece_then (piece 1 (46 ∷ []) refl) (trimmed_piece 9 n))

rounded_piece : (s : Bool) (m : ℕ) (x : Bool) → Piece 32 (rounded_text s m x)
unfolding rounded_text bytes
rounded_piece s m x =
    piece-either (not x && eqb m 0)
    (piece-either s (piece 32 (bytes ">-0.000000001") refl) (piece 32 (bytes "<0.000000001") refl))
    (piece_then (piece_if (not x) (piece 1 (bytes "~") refl))
    (piece_then (piece_if s (piece 1 (bytes "-") refl))
    (piece_then (number_piece (m / 1000000000)) (point_piece (m % 1000000000)))))

word_piece : (w : ℕ) → Piece 32 (float_word_text w)
unfolding float_word_text endless_text bits_text bytes hex_text
word_piece w =
    piece-either (eqb (exponent_of w) 2047)
    (piece_up
    (piece-either (eqb (w % 2 ^ 52) 0) (piece_then (piece_if (minus_of w) (piece 1 (bytes "-") refl)) (piece 3 (bytes "inf") refl)) (piece 4
    (bytes "nan") refl))
    (omega arith))
    (piece-either (ltb (exponent_of w) 1086)
    (rounded_piece (minus_of w) (billionths (units_of w) (2 ^ 1074)) (is_exact (units_of w) (2 ^ 1074)))
    (piece_up
    (piece_then (piece 5 (bytes "bits ") refl) (piece_then (piece 2 (bytes "0x") refl) (piece-table (hex_digit w) 16 (λ k. digit-plain _))))
    (omega arith)))

pub float_piece : (x : Float) → Piece 31 (float_text x)
unfolding float_text
float_piece x = record { most = float-length (to_bits binary64 x); plain = (word_piece (to_bits binary64 x)).plain }
