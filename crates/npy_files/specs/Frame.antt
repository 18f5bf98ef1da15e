-- Document 02, W2 and W12: the frame of an array file. 93 4E 55 4D 50 59, the version 1 0 or 2 0, the header's length
-- in two or four bytes, the header, the data.
use Rattle.std.specs.Prelude.{ℕ, zero, suc, ◌+◌, ◌-◌, ◌*◌, List, [], ◌∷◌, ◌++◌, Bool, true, false, ◌&&◌, ◌||◌, cond, leb, eqb, length, get_or, take, drop}

-- a byte past the end counts as 0
abbrev pub byte_at : List ℕ → ℕ → ℕ
byte_at t p = get_or t p 0

-- n bytes from the place p on, little-endian
unfoldable pub little : ℕ → List ℕ → ℕ → ℕ
little zero t p = 0
little (suc n) t p = byte_at t p + 256 * little n t (suc p)

abbrev pub magic : List ℕ
magic = 147 ∷ 78 ∷ 85 ∷ 77 ∷ 80 ∷ 89 ∷ []

unfoldable pub starts_with : List ℕ → List ℕ → Bool
starts_with [] t = true
starts_with (x ∷ w) [] = false
starts_with (x ∷ w) (b ∷ t) = eqb b x && starts_with w t

abbrev pub opening : ℕ → List ℕ
opening v = magic ++ (v ∷ 0 ∷ [])

unfoldable pub is_version : ℕ → List ℕ → Bool
is_version v t = starts_with (opening v) t

-- where the header begins
unfoldable pub head_start : List ℕ → ℕ
head_start t = cond (is_version 1 t) 10 12

unfoldable pub head_length : List ℕ → ℕ
head_length t = little (head_start t - 8) t 8

abbrev pub data_start : List ℕ → ℕ
data_start t = head_start t + head_length t

unfoldable pub is_framed : List ℕ → Bool
is_framed t = ((is_version 1 t || is_version 2 t) && leb (head_start t) (length t)) && leb (data_start t) (length t)

unfoldable pub head_text : List ℕ → List ℕ
head_text t = take (head_length t) (drop (head_start t) t)
