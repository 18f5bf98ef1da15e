-- A chance: its bits, as they are printed, are read back; a typed decimal is the float nearest to it.
use Rattle.std.specs.Prelude.{ℕ, ◌+◌, ◌*◌, ◌^◌, ◌<◌, true, false, ◌&&◌, ◌≡◌, eqb, length, get_or}
use mathlib.Core.List.{List, [], ◌∷◌, ◌++◌, append-nil}
use Rattle.std.proofs.Math.Path.{refl, ap}
use Rattle.std.proofs.Common.{sym, ◌∙◌, arith}
use Rattle.std.specs.Float.{binary64}
use Rattle.std.specs.Float.Ieee.{round, to_bits}
use Rattle.std.proofs.Math.ListN.{get_or-append}
use Rattle.lists.specs.Bytes.{bytes}
use Rattle.lists.specs.Every.{every, every-same}
use Rattle.lists.specs.Table.{table, length-table}
use Rattle.lists.specs.Test.{and_left}
use Rattle.lists.specs.Walk.{walk, walk_same}
use Rattle.model_texts.specs.Hex.{is_digit, digit_of, digit_at, push_digit, is_line, word_at, hex_digit, hex_line}
use Rattle.model_texts.specs.Number.{hex_text}
use Rattle.model_decimals.specs.Typed.{behind, digits_typed, digits_value, is_typed, read_text}
use Rattle.npy_answers.specs.Printed.{LineOf, line-back}
use Rattle.settings_command.specs.Argument.{is_bits, chance_of, chance_read, says}

-- ---- the bits, as `hex_text` prints them
module _ (w : ℕ) (h : w < 2 ^ 64) where
  abbrev digits : List ℕ
  digits = table 16 (hex_digit w)

  abbrev text : List ℕ
  text = 48 ∷ 120 ∷ digits

  -- the same with a newline behind it, which is a line from place 2 on
  abbrev longer : List ℕ
  longer = text ++ (10 ∷ [])

  longer-is : (48 ∷ 120 ∷ []) ++ (hex_line w ++ []) ≡ longer
  unfolding hex_line
  longer-is = ap (λ (l : List ℕ). 48 ∷ 120 ∷ l) (append-nil (hex_line w))

  a-line : LineOf longer 2 w
  a-line = rw longer-is at (line-back (48 ∷ 120 ∷ []) [] w h)

  text-length : length text ≡ 18
  text-length = omega (arith, length-table (hex_digit w) 16)

  same_byte : (q : ℕ) → q < 18 → get_or longer q 0 ≡ get_or text q 0
  same_byte q l = get_or-append text (10 ∷ []) 0 q (omega (arith, text-length))

  line-digits : (every (digit_at longer) 16 2 && eqb (get_or longer 18 0) 10) ≡ true
  unfolding is_line
  line-digits = a-line.line

  text-digits : every (digit_at text) 16 2 ≡ true
  text-digits =
      every-same (digit_at text) (digit_at longer) 16 2 (λ q a b. ap is_digit (sym (same_byte q (omega arith))))
      ∙ and_left (every (digit_at longer) 16 2) _ line-digits

  word-is : walk (push_digit longer) 16 2 0 ≡ w
  unfolding word_at
  word-is = a-line.word

  text-word : word_at text 2 ≡ w
  unfolding word_at
  text-word =
      walk_same (push_digit text) (push_digit longer) 16 2 0
      (λ q a b y. ap (λ (x : ℕ). 16 * y + digit_of x) (sym (same_byte q (omega arith)))) ∙ word-is

  hex-is : hex_text w ≡ text
  unfolding hex_text bytes
  hex-is = refl

  pub bits_is : is_bits (hex_text w) ≡ true
  unfolding is_bits
  bits_is = rw (hex-is, text-length, text-digits)

  pub bits_back : chance_of (hex_text w) ≡ says w
  unfolding chance_of
  bits_back = rw bits_is (ap says (ap (λ (t : List ℕ). word_at t 2) hex-is ∙ text-word))

-- a typed number is kept as the float nearest to it
module _ (t : List ℕ) where
  pub typed-nearest :
      is_bits t ≡ false → is_typed t ≡ true
      → chance_of t ≡ says (to_bits binary64 (round binary64 false (digits_value 0 (digits_typed t)) (10 ^ length (behind t))))
  unfolding chance_of read_text chance_read
  typed-nearest b h = rw (b, h)
