-- REFERENCE 9. Document 02, W5: what a person reads of an input whose header word is refused: which input, which
-- variable, what is wrong and what to do about it. Inputs and variables count from 0, as everywhere.
use Rattle.std.specs.Prelude.{ℕ, ◌%◌, Bool, ◌||◌, List, [], ◌∷◌, ◌++◌, eqb, get_or}
use Prim.Native.String.{String}
use Rattle.lists.specs.Bytes.{bytes}
use Rattle.model_texts.specs.Printed.{decimal}
use Rattle.model_texts.specs.Report.{tell, when}

-- by cause: what stands before the variable, or all of it
unfoldable pub cause_fronts : List String
cause_fronts =
    ""
    ∷ "its number of variables is above 4;\nwrite the word anew.\n"
    ∷ "the length of variable "
    ∷ "variable "
    ∷ "its last 13 bits are not zero;\nclear them.\n"
    ∷ "its lengths multiply to more than 4,096;\nlower them.\n"
    ∷ []

-- causes 2 and 3 name a variable, which has one digit
abbrev pub named : ℕ → Bool
named c = eqb c 2 || eqb c 3

-- what stands behind it
unfoldable pub cause_backs : List String
cause_backs =
    ""
    ∷ ""
    ∷ " is above its limit;\nlower the length or raise the limit.\n"
    ∷ " is missing, but its fields are not zero;\nclear them, or count it among the variables.\n"
    ∷ []

unfoldable pub cause_text : ℕ → ℕ → List ℕ
cause_text v c = bytes (get_or cause_fronts c "") ++ (when (named c) (decimal (v % 10)) ++ bytes (get_or cause_backs c ""))

-- the input p
unfoldable pub fault_text : ℕ → ℕ → ℕ → List ℕ
fault_text p v c = tell "Input " p ++ (bytes ": " ++ cause_text v c)
