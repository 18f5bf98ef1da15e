-- REFERENCE 5.5. Document 02, W5: the reasons to refuse a header word, each with its variable and its cause, and which
-- of them is the first; what a reason is, and not how it is found.
use Rattle.std.specs.Prelude.{ℕ, suc, ◌%◌, ◌^◌, ◌≤◌, ◌<◌, cond, leb, eqb}
use Rattle.model.specs.Cap.{most_cap}
use Rattle.model.specs.Header.{limit, len, stored}
use Rattle.model.specs.Word.{header_of}

-- the variable, 4 for none, and the cause
pub data HeaderReason (w : ℕ) : ℕ → ℕ → Type 0 where
  many_variables : 4 < (header_of w).vars → HeaderReason w 4 1
  long : (k : ℕ) → k < 4 → k < (header_of w).vars → limit (header_of w) k < len (header_of w) k → HeaderReason w k 2
  -- a missing variable has limit 1 and length 1: zeros in both fields
  missing_limit : (k : ℕ) → k < 4 → (header_of w).vars ≤ k → 1 < limit (header_of w) k → HeaderReason w k 3
  missing_length : (k : ℕ) → k < 4 → (header_of w).vars ≤ k → 1 < len (header_of w) k → HeaderReason w k 3
  spare_bits : 0 < w % 2 ^ 5 → HeaderReason w 4 4
  -- W10: told as spare bits
  large_cap : most_cap < (header_of w).cap → HeaderReason w 4 4
  large_count : 4096 < stored (header_of w) → HeaderReason w 4 5

-- which comes first: the number of variables, each variable in turn, spare bits, the count
abbrev pub cause_turn : ℕ → ℕ → ℕ
cause_turn v c = cond (eqb c 1) 0 (cond (leb c 3) (suc v) (suc c))

pub record FirstHeaderReason (w v c : ℕ) : Type 0 where
  pub reason : HeaderReason w v c
  pub first : (u d : ℕ) → HeaderReason w u d → cause_turn v c ≤ cause_turn u d
