-- REFERENCE 9.5. Columns of a table: a text and spaces up to the next column. A text that is as wide as its column or
-- wider ends its line, and the next column begins below at its own place, so that columns stand under their names.
use Rattle.std.specs.Prelude.{ℕ, ◌+◌, ◌-◌, cond, List, ◌++◌, ltb, length}
use Rattle.lists.specs.Bytes.{bytes}
use Rattle.lists.specs.Table.{table}

-- n spaces
abbrev pub blanks : ℕ → List ℕ
blanks n = table n (λ k. 32)

-- behind l bytes that begin at the column c, which is n wide
unfoldable pub gap : ℕ → ℕ → ℕ → List ℕ
gap c n l = cond (ltb l n) (blanks (n - l)) (bytes "\n" ++ blanks (c + n))

unfoldable pub cell : ℕ → ℕ → List ℕ → List ℕ
cell c n t = t ++ gap c n (length t)
