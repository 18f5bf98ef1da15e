-- A line whose sums are added, place by place.
use Rattle.std.specs.Prelude.{ℕ, ◌-◌, ◌<◌, List, ◌≡◌, get_or, length, Float}
use Rattle.std.specs.Float.{nan, binary64}
use Rattle.std.specs.Float.Ieee.{add}
use Rattle.lists.specs.Table.{Filled}
use Rattle.model.specs.General.{line}
use Rattle.lists.specs.Fill.{filled-here}

-- a place with its sum added: n and m are the lengths of the left and the right
abbrev pub line_added : List Float → List Float → ℕ → ℕ → List Float → ℕ → Float
line_added xs ys n m old k = add binary64 (get_or old k nan) (line xs ys n m k)

-- a turn of the loop over the places of a line
pub line-more : (xs ys : List Float) (n m : ℕ) {k : ℕ} {old out : List Float} {z : Float}
    → Filled k (line_added xs ys n m old) old out → k < length old → z ≡ line xs ys n m k
    → add binary64 (get_or out k nan) z ≡ line_added xs ys n m old k
line-more xs ys n m f h e = rw (filled-here nan f h, e)
