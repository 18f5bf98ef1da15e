-- REFERENCE 9. What a person reads where a sheet is refused: the line that `recipe` prints, then one sentence: which
-- place, what the number means, what to do about it.
use Rattle.std.specs.Prelude.{ℕ, Bool, cond, List, [], ◌∷◌, ◌++◌, ltb, eqb, get_or}
use Prim.Native.String.{String}
use Rattle.lists.specs.Bytes.{bytes}
use Rattle.model.specs.declared.Refusal.{Refusal}
use Rattle.model_texts.specs.Printed.{refused_text}
use Rattle.model_texts.specs.Report.{tell, when}
use Rattle.model_texts.specs.Cause.{fault_text}

-- by number, of a place; a sheet is never refused by 0, 2 or 6 (document 01), and 1 has a cause to tell
unfoldable pub place_meanings : List String
place_meanings =
    ""
    ∷ ""
    ∷ ""
    ∷ "its variable is not its operand's; name one that the operand has.\n"
    ∷ "its n is not below the operand's limit; take a smaller n.\n"
    ∷ "it would hold more than 4,096 coefficients; lower limits or lengths.\n"
    ∷ ""
    ∷ "its step has a wrong kind, operand or unused field; write it anew.\n"
    ∷ []

-- by number, of no place in particular
unfoldable pub sheet_meanings : List String
sheet_meanings =
    ""
    ∷ ""
    ∷ ""
    ∷ ""
    ∷ ""
    ∷ "The sheet is too large: at most 256 coefficients a place, 2,048 in all inputs\nand 2,048 in all steps; lower limits or lengths.\n"
    ∷ ""
    ∷ "Word one is wrong: 0 to 16 inputs, 1 or more steps, 64 places at most, zeros.\n"
    ∷ "The sheet is not its words exactly: write each as 16 lower-case hex digits and\na newline, none missing and nothing after them.\n"
    ∷ []

unfoldable pub meaning : Bool → ℕ → List ℕ
meaning placed n = cond placed (bytes (get_or place_meanings n "")) (bytes (get_or sheet_meanings n ""))

unfoldable pub refusal_report : Refusal → List ℕ
refusal_report r =
    let placed = ltb r.place 64 in
    refused_text r
    ++ cond (eqb r.number 1) (fault_text r.place r.variable r.cause)
    (when placed (tell "Place " r.place ++ bytes ": ") ++ meaning placed r.number)
