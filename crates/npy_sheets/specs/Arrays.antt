-- Document 02, W2 and W12, the program `to_npy`: the answer of `recipe` to an array file of version 1.0, or of the
-- newer one, whose shape is the stored lengths; a refusal's line goes through as it is; any other text is refused by 8.
use Rattle.std.specs.Prelude.{ℕ, List, Bool, cond, ◌≡◌, Float}
use Rattle.lists.specs.Table.{front}
use Rattle.model.specs.Refusals.{refused_by}
use Rattle.model.specs.Word.{header_of}
use Rattle.model_texts.specs.Printed.{refused_text}
use Rattle.npy_files.specs.Shapes.{shape_of}
use Rattle.npy_files.specs.Writes.{file_out}
use Rattle.npy_answers.specs.Answer.{head_word, value_count, line_value, is_answer, answer_values, is_refusal}
use Rattle.sheet_text.specs.Put.{Put}

-- all that is printed for a text
unfoldable pub array_text : Bool → List ℕ → List ℕ
array_text newer t = cond (is_answer t) (file_out newer (shape_of (header_of (head_word t))) (answer_values t)) (cond (is_refusal t) t
    (refused_text (refused_by 8)))

-- the memory for the coefficients, afterwards
unfoldable pub array_memory : List ℕ → List Float → List Float
array_memory t values = cond (is_answer t) (front (value_count t) (line_value t) values) values

pub record Arrayed (newer : Bool) (t : List ℕ) (values values' : List Float) (old new : List ℕ) (n : ℕ) : Type 0 where
  pub put : Put 0 (array_text newer t) old new n
  pub memory : values' ≡ array_memory t values
