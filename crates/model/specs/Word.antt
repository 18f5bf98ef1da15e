-- REFERENCE 2.1. Document 01, 'Header word', most significant first: number of variables (3 bits), then four times
-- limit less one (6) and length less one (6), then 13 zero bits. Document 02, W10: of these the first eight are a cap.
-- As long as no header may have one (`most_cap`) it is told as spare bits are.
use Rattle.std.specs.Prelude.{ℕ, ◌+◌, ◌-◌, ◌*◌, ◌/◌, ◌%◌, ◌^◌, Bool}
use Rattle.lists.specs.Four.{four}
use Rattle.model.specs.declared.Header.{Header}
use Rattle.model.specs.declared.Fault.{Fault}
use Rattle.model.specs.Header.{header, limit, len}
use Rattle.model.specs.Faults.{is_sound, header_fault}

-- six bits from the bit `low` up
abbrev pub field_at : ℕ → ℕ → ℕ
field_at w low = w / 2 ^ low % 2 ^ 6

-- the eight bits after the last length
abbrev pub cap_at : ℕ → ℕ
cap_at w = w / 2 ^ 5 % 2 ^ 8

-- what the fields of a word say, good or not: of variable k the limit stands at bit 55 - 12 k, the length at 49 - 12 k
unfoldable pub header_of : ℕ → Header
header_of w =
    header (w / 2 ^ 61 % 2 ^ 3) (four (λ k. field_at w (55 - 12 * k) + 1)) (four (λ k. field_at w (49 - 12 * k) + 1)) (cap_at w)

-- the first thing that is wrong with a word (document 02, W5)
unfoldable pub fault_of : ℕ → Fault
fault_of w = header_fault (header_of w) (w % 2 ^ 5)

-- a word that is a header: nothing is wrong with it. Then its header keeps the rules, and only then (`good-word-is`,
-- shape_words)
unfoldable pub good_word : ℕ → Bool
good_word w = is_sound (fault_of w)

-- a word with one field more at its low end: x less one
abbrev pub pushed : ℕ → ℕ → ℕ
pushed w x = w * 2 ^ 6 + (x - 1)

unfoldable pub fields : Header → ℕ
fields h =
    pushed (pushed (pushed (pushed (pushed (pushed (pushed (pushed h.vars
    (limit h 0)) (len h 0)) (limit h 1)) (len h 1)) (limit h 2)) (len h 2)) (limit h 3)) (len h 3)

-- the word of a header
unfoldable pub word_of : Header → ℕ
word_of h = (fields h * 2 ^ 8 + h.cap) * 2 ^ 5
