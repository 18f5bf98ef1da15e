-- Of what `recipe` prints when it is done `to_npy` makes the array file of the same header word and floats; a NaN is a
-- NaN. So `from_npy` and `to_npy` lose nothing of an array, and of an answer its limits alone (`read_back`,
-- npy_laws/specs/Back.antt).
use Rattle.std.specs.Prelude.{ℕ, ◌^◌, ◌<◌, List, Bool, true, T, ◌≡◌, length, get_or, Float}
use Rattle.std.proofs.Common.{ap, ap₂, ◌∙◌}
use Rattle.std.specs.Float.{nan, binary64}
use Rattle.std.specs.Float.Ieee.{fits}
use Rattle.model.specs.Header.{stored}
use Rattle.model.specs.Word.{header_of, good_word}
use Rattle.model_texts.specs.Printed.{done_text}
use Rattle.npy_files.specs.Shapes.{shape_of}
use Rattle.npy_files.specs.Writes.{file_out}
use Rattle.npy_answers.specs.Printed.{text-is, done-answer, done_word_lem, done-values}
use Rattle.npy_sheets.specs.Arrays.{array_text}

pub answer_array : (newer : Bool) (n w : ℕ) (xs : List Float) → n < 100 → w < 2 ^ 64 → good_word w ≡ true → length xs ≡ stored (header_of w)
    → ((k : ℕ) → k < length xs → T (fits binary64 (get_or xs k nan))) → array_text newer (done_text n w xs) ≡ file_out newer (shape_of (header_of w)) xs
unfolding array_text
answer_array newer n w xs few small good many fit =
    ap (array_text newer) (text-is n w xs few small good many fit)
    ∙ rw (done-answer n w xs few small good many fit)
    (ap₂ (λ (v : ℕ) (ys : List Float). file_out newer (shape_of (header_of v)) ys) (done_word_lem n w xs few small good many fit)
    (done-values n w xs few small good many fit))
