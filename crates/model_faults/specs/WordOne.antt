-- REFERENCE 6.1, 9. Refusal 7 at no place, document 01: 0 to 16 inputs, 1 or more steps, together at most 64 places;
-- word one is inputs (8 bits), steps (8), the edition (4; document 02, W7), zeros: eleven digits.
use Rattle.std.specs.Prelude.{ℕ, ◌+◌, List, [], ◌++◌, leb, eqb}
use Rattle.lists.specs.Bytes.{bytes}
use Rattle.model_texts.specs.Sheet.{input_count, step_count, sheet_edition, spare}
use Rattle.model_faults.specs.Saying.{say, say_two, unless}

-- k inputs, n steps, x what the zeros say
unfoldable pub sizes_cause : ℕ → ℕ → ℕ → List ℕ
sizes_cause k n x =
    unless (leb k 16) (say "word one has " k " inputs; 16 are the most.\n")
    (unless (leb 1 n) (bytes "word one has no step; write 1 or more.\n")
    (unless (leb (k + n) 64) (say_two "word one has " k " inputs and " n " steps; 64 together are the most.\n")
    (unless (eqb x 0) (bytes "word one's last 11 digits are not all zero; write zeros.\n")
    [])))

-- of the edition e, which is tested before the sizes
unfoldable pub word_one_cause : ℕ → ℕ → ℕ → ℕ → List ℕ
word_one_cause e k n x = unless (leb e 1) (say "word one has edition " e "; write 0 or 1.\n") (sizes_cause k n x)

-- t: the bytes of the sheet
unfoldable pub sizes_fault : List ℕ → List ℕ
sizes_fault t = bytes "line 1: " ++ word_one_cause (sheet_edition t) (input_count t) (step_count t) (spare t)
