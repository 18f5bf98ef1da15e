-- Document 02, W2 and W12: what reading an array file answers and leaves. Refusals in order: 10 for another format or
-- kind of values, to the header's very last byte; 5 for dimensions, count or a short buffer; 10 for data unlike the
-- shape.
use Rattle.std.specs.Prelude.{Ok, Err, ℕ, List, ◌++◌, Bool, true, false, ◌&&◌, ◌≡◌, leb, length, drop, Float}
use Rattle.lists.specs.Table.{table}
use Rattle.model.specs.Results.{Answer}
use Rattle.model.specs.Refusals.{refused_by}
use Rattle.model.specs.Word.{word_of}
use Rattle.npy_grammar.specs.Text.{Values, Right}
use Rattle.npy_files.specs.Frame.{is_framed, head_text}
use Rattle.npy_files.specs.Shapes.{product, good_shape, head_of}
use Rattle.npy_files.specs.Values.{file_value, data_fits}

-- a file of this format that says v: either version, both widths, both orders
pub record Says (t : List ℕ) (v : Values) : Type 0 where
  pub framed : is_framed t ≡ true
  pub right : Right (head_text t) v

-- m places are lent for the coefficients
unfoldable pub is_room : Values → ℕ → Bool
is_room v m = good_shape v.shape && leb (product v.shape) m

-- what a file that says v answers, and what is left in the lent buffer
abbrev pub read_answer : Values → Answer
read_answer v = Ok (word_of (head_of v.shape))

abbrev pub read_out : List ℕ → List Float → Values → List Float
read_out t old v = table (product v.shape) (file_value t v) ++ drop (product v.shape) old

-- `old` and the list after the answer: the lent buffer before and after
pub data Reading (t : List ℕ) (old : List Float) : Answer → List Float → Type 0 where
  other : ((v : Values) → Says t v → ⊥) → Reading t old (Err (refused_by 10)) old
  sizes : (v : Values) → Says t v → is_room v (length old) ≡ false → Reading t old (Err (refused_by 5)) old
  unlike : (v : Values) → Says t v → is_room v (length old) ≡ true → data_fits t v ≡ false → Reading t old (Err (refused_by 10)) old
  done : (v : Values) → Says t v → is_room v (length old) ≡ true → data_fits t v ≡ true → Reading t old (read_answer v) (read_out t old v)
