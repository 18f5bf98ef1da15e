-- A row of the table that wants a header word is a call that is not refused and answers that word.
use Rattle.std.specs.Prelude.{Ok, Err, ◌≡◌, true, List, [], ◌∷◌, ℕ, zero, suc, ◌<◌, eqb, length, get_or, Float}
use Rattle.std.proofs.Common.{sym, ap, arith, eqb-true}
use Rattle.lists.specs.Test.{and_left, and_right}
use Rattle.model.specs.Results.{Answer}
use Rattle.laws_examples.specs.Examples.{Operand, operand, nothing, Row, row, Tail, shown, answer, same, equal, hold, rows, examples-hold}

abbrev pub no_row : Row
no_row = row (Tail 0 0) nothing nothing nothing

abbrev pub holds : Row → Type 0
holds r = equal (answer r.operation r.left r.right) r.wanted ≡ true

pub each_row_lem : (rs : List Row) → hold rs ≡ true → (k : ℕ) → k < length rs → holds (get_or rs k no_row)
unfolding hold
each_row_lem [] e k h = absurd (omega arith)
each_row_lem (r ∷ rs) e zero h = and_left (equal (answer r.operation r.left r.right) r.wanted) (hold rs) e
each_row_lem (r ∷ rs) e (suc k) h = each_row_lem rs (and_right (equal (answer r.operation r.left r.right) r.wanted) (hold rs) e) k (omega arith)

-- what is shown of a refusal has no header
pub shown-done : (a : Answer) (out : List Float) (o : Operand) → 0 < o.word → equal (shown a out) o ≡ true → a ≡ Ok o.word
unfolding equal
shown-done (Ok w) out o n e = ap Ok (eqb-true w o.word (and_left (eqb w o.word) _ e))
shown-done (Err r) out o n e = absurd (let z = eqb-true 0 o.word (and_left (eqb 0 o.word) _ e) in omega (arith, z))
