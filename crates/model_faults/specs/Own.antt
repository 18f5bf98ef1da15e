-- REFERENCE 7.3, 9. Refusal 5 at no place, document 01: the program's own limits of 256 coefficients an input or step,
-- 2,048 for all inputs, 2,048 a pool. In this order the first that does not hold is told; of places the first.
use Rattle.std.specs.Prelude.{ℕ, ◌+◌, Bool, cond, List, [], ◌++◌, ltb, leb, length, take, drop}
use Rattle.lists.specs.Bytes.{bytes}
use Rattle.model.specs.declared.Header.{Header}
use Rattle.model.specs.Header.{stored}
use Rattle.model_recipes.specs.Recipe.{head_at, total}
use Rattle.model_texts.specs.Report.{tell}
use Rattle.model_faults.specs.Saying.{say, unless, first_not}

-- where something is wrong: the line, counted from 1, and the place p, of which the first k are inputs
unfoldable pub where_text : ℕ → ℕ → ℕ → List ℕ
where_text line k p = tell "line " line ++ (cond (ltb p k) (tell " (input " p) (tell " (place " p) ++ bytes "): ")

-- the line of the place p, after c coefficients: word one, headers, coefficients, steps
unfoldable pub line_of : ℕ → ℕ → ℕ → ℕ
line_of k c p = cond (ltb p k) (2 + p) (2 + c + p)

-- the place p takes n coefficients
unfoldable pub large_fault : ℕ → ℕ → ℕ → ℕ → List ℕ
large_fault k c p n = where_text (line_of k c p) k p ++ say "it takes " n " coefficients; 256 are the most here.\n"

-- the inputs take c coefficients, the steps d
unfoldable pub totals_fault : ℕ → ℕ → List ℕ
totals_fault c d =
    unless (leb c 2048) (say "The inputs take " c " coefficients together; 2048 are the most.\n")
    (unless (leb d 2048) (say "The steps take " d " coefficients together; 2048 are the most.\n")
    [])

-- known what all places announce
abbrev pub small_at : List Header → ℕ → Bool
small_at known p = leb (stored (head_at known p)) 256

unfoldable pub first_large : List Header → ℕ
first_large known = first_not (small_at known) (length known) 0

-- the first k of them are inputs
unfoldable pub own_fault : List Header → ℕ → List ℕ
own_fault known k =
    let c = total (take k known) in
    let p = first_large known in
    unless (leb (length known) p) (large_fault k c p (stored (head_at known p))) (totals_fault c (total (drop k known)))
