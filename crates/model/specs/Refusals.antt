-- REFERENCE 5.1, 5.4. Document 01, 'Refusal numbers': the lowest number wins in one operation; a refusal changes no
-- buffer; done, the announced places hold the answer, then +0.0, the scratch's first 8 times the announced count are
-- +0.0, and the rest is untouched.
use Rattle.std.specs.Prelude.{Ok, Err, ℕ, ◌-◌, ◌*◌, List, ◌++◌, Bool, true, false, ◌&&◌, cond, eqb, leb, length, drop, Float}
use Rattle.std.specs.Float.Ieee.{of_bits}
use Rattle.std.specs.Float.{binary64}
use Rattle.lists.specs.Table.{table}
use Rattle.model.specs.declared.Header.{Header}
use Rattle.model.specs.declared.Fault.{Fault}
use Rattle.model.specs.declared.Refusal.{Refusal}
use Rattle.model.specs.Results.{Answer}
use Rattle.model.specs.Results.{Reading}
use Rattle.model.specs.declared.Linear.{Linear}
use Rattle.model.specs.Results.{LinearReading}
use Rattle.model.specs.Header.{stored}

-- by a number alone, at the place p
abbrev pub refused_at : ℕ → ℕ → Refusal
refused_at k p = record { number = k; place = p; variable = 0; cause = 0 }

-- by 1, for a fault of a header word or of limits (document 02, W5)
abbrev pub refused_for : Fault → ℕ → Refusal
refused_for f p = record { number = 1; place = p; variable = f.variable; cause = f.cause }

-- 64: about no place in particular
abbrev pub refused_by : ℕ → Refusal
refused_by k = refused_at k 64

abbrev pub no_refusal : Refusal
no_refusal = refused_by 0

abbrev pub is_none : Refusal → Bool
is_none r = eqb r.number 0

-- a gate is a chain of these, the lowest number first: what follows where the test holds, else the refusal
abbrev pub ask_for : Bool → Refusal → Refusal → Refusal
ask_for true r next = next
ask_for false r next = r

-- the refusal is a number alone
abbrev pub ask : Bool → ℕ → Refusal → Refusal
ask t k next = ask_for t (refused_by k) next

-- test 5: the announced count is 4,096 at most, and so many places are lent
abbrev pub fits : Header → ℕ → Bool
fits h lent = leb (stored h) 4096 && leb (stored h) lent

-- test 6
abbrev pub roomy : Header → ℕ → Bool
roomy h lent = leb (8 * stored h) lent

-- Answers. `answer_by`, `read_by` and `linear_by` say which case of the enum stands for which number and value of
-- document
-- 01.

unfoldable pub answer_by : Refusal → ℕ → Answer
answer_by r w = cond (is_none r) (Ok w) (Err r)

unfoldable pub read_by : Refusal → Float → Reading
read_by r x = cond (is_none r) (Ok x) (Err r)

unfoldable pub linear_by : Refusal → Linear → LinearReading
linear_by r x = cond (is_none r) (Ok x) (Err r)

-- Buffers.

abbrev pub zero_f : Float
zero_f = of_bits binary64 0

abbrev pub zeros : ℕ → List Float
zeros n = table n (λ k. zero_f)

-- a buffer after a call: as it was, where it was refused
unfoldable pub leaves : Refusal → List Float → List Float → List Float
leaves r new old = cond (is_none r) new old

-- n places: the answer, then +0.0
abbrev pub padded : ℕ → List Float → List Float
padded n xs = xs ++ zeros (n - length xs)

-- n announced places; the rest of the buffer as it was
unfoldable pub written : ℕ → List Float → List Float → List Float
written n xs old = padded n xs ++ drop n old

-- the first 8 n places of a scratch at +0.0, the rest as it was
unfoldable pub cleared : ℕ → List Float → List Float
cleared n old = zeros (8 * n) ++ drop (8 * n) old
