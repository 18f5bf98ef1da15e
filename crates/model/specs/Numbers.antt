-- REFERENCE 5.1, 5.4. Document 01, 'Refusal numbers' and 'What each answer owes', and document 02, W5: the number,
-- place, variable, cause, header and values that each case of an answer stands for. A refusal has its number, place,
-- variable and cause, and 0 for what it has not; what is done has number 0, is about no place in particular, and has 0
-- for variable and cause.
use Rattle.std.specs.Prelude.{Ok, Err, ℕ, Float}
use Rattle.model.specs.declared.Refusal.{Refusal}
use Rattle.model.specs.declared.Linear.{Linear}
use Rattle.model.specs.Results.{Answer}
use Rattle.model.specs.Results.{Reading}
use Rattle.model.specs.Results.{CountReading}
use Rattle.model.specs.Results.{LinearReading}
use Rattle.model.specs.Refusals.{no_refusal, zero_f}
use Rattle.model.specs.Linear.{no_linear}

-- a polynomial made: its true header's word
abbrev pub answer_refusal : Answer → Refusal
answer_refusal (Ok w) = no_refusal
answer_refusal (Err r) = r

abbrev pub answer_head : Answer → ℕ
answer_head (Ok w) = w
answer_head (Err r) = 0

-- a number read
abbrev pub reading_refusal : Reading → Refusal
reading_refusal (Ok x) = no_refusal
reading_refusal (Err r) = r

abbrev pub reading_value : Reading → Float
reading_value (Ok x) = x
reading_value (Err r) = zero_f

-- a count read
abbrev pub count_refusal : CountReading → Refusal
count_refusal (Ok k) = no_refusal
count_refusal (Err r) = r

abbrev pub count_value : CountReading → ℕ
count_value (Ok k) = k
count_value (Err r) = 0

-- the linear test: yes or no with c, m and a variable
abbrev pub linear_test_refusal : LinearReading → Refusal
linear_test_refusal (Ok x) = no_refusal
linear_test_refusal (Err r) = r

abbrev pub linear_test_value : LinearReading → Linear
linear_test_value (Ok x) = x
linear_test_value (Err r) = no_linear
