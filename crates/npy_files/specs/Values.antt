-- Document 02, W2 and W12: the values of an array file, for both widths and both orders.
use Rattle.std.specs.Prelude.{ℕ, ◌+◌, ◌*◌, List, Bool, eqb, length, Float}
use Rattle.std.specs.Float.Ieee.{of_bits}
use Rattle.std.specs.Float.{binary32, binary64}
use Rattle.lists.specs.Four.{at}
use Rattle.model.specs.Places.{index}
use Rattle.npy_grammar.specs.Text.{Width, eight, four, Order, rows, columns, Values}
use Rattle.npy_files.specs.Frame.{little, data_start}
use Rattle.npy_files.specs.Shapes.{product, lengths_of}

unfoldable pub bytes_of : Width → ℕ
bytes_of eight = 8
bytes_of four = 4

-- value number k behind the place d; an f32 is the f64 of the same value
unfoldable pub value_at : Width → List ℕ → ℕ → ℕ → Float
value_at eight t d k = of_bits binary64 (little 8 t (d + 8 * k))
value_at four t d k = of_bits binary32 (little 4 t (d + 4 * k))

-- the number of an index where the first dimension is the fastest
unfoldable pub column_place : List ℕ → List ℕ → ℕ
column_place n i = at i 0 + at n 0 * (at i 1 + at n 1 * (at i 2 + at n 2 * at i 3))

-- the one rearrangement: which value of the file stands at the place p of a polynomial with the lengths n
unfoldable pub file_place : Order → List ℕ → ℕ → ℕ
file_place rows n p = p
file_place columns n p = column_place n (index n p)

-- the coefficient at the place p that a file which says v has
abbrev pub file_value : List ℕ → Values → ℕ → Float
file_value t v p = value_at v.width t (data_start t) (file_place v.order (lengths_of v.shape) p)

-- the bytes behind the header are those of the shape, none less and none more
unfoldable pub data_fits : List ℕ → Values → Bool
data_fits t v = eqb (length t) (data_start t + bytes_of v.width * product v.shape)
