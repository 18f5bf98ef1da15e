-- REFERENCE 6.2, 6.4, 9. Refusal 7 at a step, document 01: operands name earlier places; fields that a kind does not
-- use and the last 14 bits must be zero; 12 to 15 are no kinds. Tested from the left of the word to its right.
use Rattle.std.specs.Prelude.{ℕ, Bool, cond, List, [], ◌++◌, eqb}
use Prim.Native.String.{String}
use Rattle.lists.specs.Bytes.{bytes}
use Rattle.model_recipes.specs.Steps.{step_of, spare_of, uses_of}
use Rattle.model_recipes.specs.Check.{named_before, zero_unless}
use Rattle.model_faults.specs.Saying.{say, say_two, unless}

-- an operand of the step at the place p that names the place x, which is no earlier one
unfoldable pub late_text : ℕ → ℕ → List ℕ
late_text x p =
    cond (eqb p 0) (say " is place " x "; there is no earlier place.\n")
    (cond (eqb x p) (say " is place " x " itself; name an earlier one.\n") (say " is place " x "; name an earlier one.\n"))

-- a field that the kind k does not use and that says x
unfoldable pub unused_text : ℕ → ℕ → List ℕ
unused_text x k = say_two " is " x "; kind " k " uses none: write 0.\n"

unfoldable pub operand_text : Bool → ℕ → ℕ → ℕ → List ℕ
operand_text used x p k = cond used (late_text x p) (unused_text x k)

-- the fields behind the operands
unfoldable pub fields_cause : ℕ → List ℕ
fields_cause w =
    let s = step_of w in
    let u = uses_of s.kind in
    unless (zero_unless u.variable s.variable) (bytes "the variable" ++ unused_text s.variable s.kind)
    (unless (zero_unless u.n s.n) (bytes "n" ++ unused_text s.n s.kind)
    (unless (eqb (spare_of w) 0) (say "its last 14 bits are " (spare_of w) "; write zeros.\n")
    []))

-- the step word w at the place p
unfoldable pub formed_cause : ℕ → ℕ → List ℕ
formed_cause w p =
    let s = step_of w in
    let u = uses_of s.kind in
    unless u.kind (say "there is no kind " s.kind "; take 0 to 11.\n")
    (unless (named_before p u.a s.a) (bytes "operand a" ++ operand_text u.a s.a p s.kind)
    (unless (named_before p u.b s.b) (bytes "operand b" ++ operand_text u.b s.b p s.kind)
    (fields_cause w)))
