-- Document 02, W2: shapes. 0 to 4 dimensions of 1 to 64 and at most 4,096 values; limits are taken as the shape.
use Rattle.std.specs.Prelude.{ℕ, ◌*◌, List, [], ◌∷◌, Bool, true, ◌&&◌, leb, length, get_or, take}
use Rattle.lists.specs.Four.{four}
use Rattle.model.specs.declared.Header.{Header}
use Rattle.model.specs.Header.{header}

unfoldable pub all_in_range : List ℕ → Bool
all_in_range [] = true
all_in_range (x ∷ s) = (leb 1 x && leb x 64) && all_in_range s

-- how many values
unfoldable pub product : List ℕ → ℕ
product [] = 1
product (x ∷ s) = x * product s

unfoldable pub good_shape : List ℕ → Bool
good_shape s = (leb (length s) 4 && all_in_range s) && leb (product s) 4096

-- one number to a variable, 1 for a missing one
abbrev pub lengths_of : List ℕ → List ℕ
lengths_of s = four (λ k. get_or s k 1)

-- the header of a file that is read
abbrev pub head_of : List ℕ → Header
head_of s = header (length s) (lengths_of s) (lengths_of s) 0

-- the shape of a file that is written: the stored lengths
abbrev pub shape_of : Header → List ℕ
shape_of h = take h.vars h.lengths
