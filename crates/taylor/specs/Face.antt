-- The face: one word an answer. Done, the header word; refused, number + 2^8 place + 2^16 variable + 2^24 cause. A
-- reading that gives a number answers 0 and writes the number, or answers the refusal and writes nothing;
-- `extract_linear` answers 0 for no, 1 + variable for yes, and a refusal + 2^32.
use Rattle.std.specs.Prelude.{Ok, Err, ℕ, ◌+◌, ◌*◌, ◌^◌, cond, List, [], ◌∷◌, ◌≡◌, Float}
use Rattle.model.specs.declared.Refusal.{Refusal}
use Rattle.model.specs.Results.{Answer}
use Rattle.model.specs.Results.{Reading}
use Rattle.model.specs.Results.{CountReading}
use Rattle.model.specs.Results.{LinearReading}
use Rattle.model_recipes.specs.Results.{CheckAnswer}
use Rattle.model_recipes.specs.Results.{RunAnswer}
use Rattle.npy_files.specs.Results.{Written}
use Rattle.npy_files.specs.Reads as npy

-- four limits or four indices of a call, as the entry takes them
abbrev pub four_of : ℕ → ℕ → ℕ → ℕ → List ℕ
four_of a b c d = a ∷ b ∷ c ∷ d ∷ []

abbrev pub word_of_refusal : Refusal → ℕ
word_of_refusal r = r.number + 2 ^ 8 * r.place + 2 ^ 16 * r.variable + 2 ^ 24 * r.cause

-- a polynomial was made, or not
abbrev pub word_of_answer : Answer → ℕ
word_of_answer (Ok w) = w
word_of_answer (Err r) = word_of_refusal r

-- a float was read, or not
abbrev pub word_of_reading : Reading → ℕ
word_of_reading (Ok x) = 0
word_of_reading (Err r) = word_of_refusal r

-- what stands where `old` stood
abbrev pub value_after : Reading → Float → Float
value_after (Ok x) old = x
value_after (Err r) old = old

-- a number of places was read, or not
abbrev pub word_of_count : CountReading → ℕ
word_of_count (Ok k) = 0
word_of_count (Err r) = word_of_refusal r

abbrev pub count_after : CountReading → ℕ → ℕ
count_after (Ok k) old = k
count_after (Err r) old = old

-- the linear test
abbrev pub word_of_linear : LinearReading → ℕ
word_of_linear (Ok l) = cond l.yes (1 + l.variable) 0
word_of_linear (Err r) = word_of_refusal r + 2 ^ 32

-- 0 where there is none
abbrev pub variable_of : LinearReading → ℕ
variable_of (Ok l) = l.variable
variable_of (Err r) = 0

abbrev pub constant_after : LinearReading → Float → Float
constant_after (Ok l) old = l.c
constant_after (Err r) old = old

abbrev pub factor_after : LinearReading → Float → Float
factor_after (Ok l) old = l.m
factor_after (Err r) old = old

-- a recipe is accepted, and its totals are written; or not
abbrev pub word_of_check : CheckAnswer → ℕ
word_of_check (Ok t) = 0
word_of_check (Err r) = word_of_refusal r

abbrev pub pool_after : CheckAnswer → ℕ → ℕ
pool_after (Ok t) old = t.pool
pool_after (Err r) old = old

abbrev pub largest_after : CheckAnswer → ℕ → ℕ
largest_after (Ok t) old = t.largest
largest_after (Err r) old = old

abbrev pub inputs_after : CheckAnswer → ℕ → ℕ
inputs_after (Ok t) old = t.inputs
inputs_after (Err r) old = old

-- a run is done, or not
abbrev pub word_of_run : RunAnswer → ℕ
word_of_run (Ok u) = 0
word_of_run (Err r) = word_of_refusal r

-- an array file is read: the word of an answer that its reading has
pub record FileRead (t : List ℕ) (old : List Float) (w : ℕ) (new : List Float) : Type 0 where
  pub answer : Answer
  pub word : w ≡ word_of_answer answer
  pub reading : npy.Reading t old answer new

-- an array file is written, and how many bytes it has; or not
abbrev pub word_of_written : Written → ℕ
word_of_written (Ok n) = 0
word_of_written (Err r) = word_of_refusal r

abbrev pub length_after : Written → ℕ → ℕ
length_after (Ok n) old = n
length_after (Err r) old = old
