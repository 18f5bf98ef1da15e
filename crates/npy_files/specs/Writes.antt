-- Document 02, W2 and W12: writing. One layout a version, 128 bytes before the data, the bytes that NumPy writes;
-- refusals 1, 2, then 5 for a short byte buffer.
use Rattle.std.specs.Prelude.{Ok, Err, ℕ, zero, suc, ◌+◌, ◌-◌, ◌*◌, ◌/◌, ◌%◌, List, [], ◌∷◌, ◌++◌, Bool, cond, leb, length, take, Float}
use Rattle.std.specs.Float.Ieee.{to_bits}
use Rattle.std.specs.Float.{binary64}
use Rattle.lists.specs.Bytes.{bytes}
use Rattle.lists.specs.Grow.{over}
use Rattle.lists.specs.Table.{table}
use Rattle.model.specs.declared.Refusal.{Refusal}
use Rattle.model.specs.Header.{stored}
use Rattle.model.specs.Word.{header_of}
use Rattle.model.specs.Refusals.{ask, is_none, no_refusal}
use Rattle.model.specs.Gates.{ask_word, full}
use Rattle.model_texts.specs.Printed.{decimal}
use Rattle.npy_files.specs.Results.{Written}
use Rattle.npy_files.specs.Frame.{opening}
use Rattle.npy_files.specs.Shapes.{shape_of}

-- n bytes of a word, little-endian
unfoldable pub low_bytes : ℕ → ℕ → List ℕ
low_bytes zero w = []
low_bytes (suc n) w = w % 256 ∷ low_bytes n (w / 256)

-- a comma, a space and a number, for each
unfoldable pub followed : List ℕ → List ℕ
followed [] = []
followed (x ∷ s) = 44 ∷ 32 ∷ (decimal x ++ followed s)

-- numbers with a comma and a space between
unfoldable pub listed : List ℕ → List ℕ
listed [] = []
listed (x ∷ s) = decimal x ++ followed s

-- a tuple of one number has its comma
unfoldable pub closing : List ℕ → List ℕ
closing [] = []
closing (x ∷ []) = 44 ∷ []
closing (x ∷ (y ∷ s)) = []

-- (), (3,), (3, 4)
unfoldable pub tuple_out : List ℕ → List ℕ
tuple_out s = 40 ∷ (listed s ++ (closing s ++ (41 ∷ [])))

-- {'descr': '<f8', 'fortran_order': False, 'shape': (3, 4), }
unfoldable pub dict_out : List ℕ → List ℕ
dict_out s = bytes "{'descr': '<f8', 'fortran_order': False, 'shape': " ++ (tuple_out s ++ bytes ", }")

-- n bytes: the dictionary, spaces, a newline
unfoldable pub head_out : ℕ → List ℕ → List ℕ
head_out n s = dict_out s ++ (table (n - 1 - length (dict_out s)) (λ k. 32) ++ (10 ∷ []))

unfoldable pub data_out : List Float → List ℕ
data_out [] = []
data_out (x ∷ xs) = low_bytes 8 (to_bits binary64 x) ++ data_out xs

-- version 1.0, or the newer one, 2.0: its number; the header's length, so that 128 bytes stand before the data; in how
-- many bytes that length stands
abbrev pub version_of : Bool → ℕ
version_of newer = cond newer 2 1

abbrev pub head_bytes : Bool → ℕ
head_bytes newer = cond newer 116 118

abbrev pub length_bytes : Bool → ℕ
length_bytes newer = cond newer 4 2

unfoldable pub start_out : Bool → List ℕ
start_out newer = opening (version_of newer) ++ low_bytes (length_bytes newer) (head_bytes newer)

unfoldable pub front_out : Bool → List ℕ → List ℕ
front_out newer s = start_out newer ++ head_out (head_bytes newer) s

unfoldable pub file_out : Bool → List ℕ → List Float → List ℕ
file_out newer s xs = front_out newer s ++ data_out xs

-- ---- the entries: newer says the version, w is a header word, a the coefficients, old the byte buffer

abbrev pub file_length : ℕ → ℕ
file_length w = 128 + 8 * stored (header_of w)

unfoldable pub write_gate : ℕ → ℕ → ℕ → Refusal
write_gate w m n = ask_word w (ask (full w m) 2 (ask (leb (file_length w) n) 5 no_refusal))

-- how many bytes were written
unfoldable pub write_answer : ℕ → List Float → List ℕ → Written
write_answer w a old =
    let r = write_gate w (length a) (length old) in
    cond (is_none r) (Ok (file_length w)) (Err r)

unfoldable pub write_file : Bool → ℕ → List Float → List ℕ → List ℕ
write_file newer w a old =
    let r = write_gate w (length a) (length old) in
    cond (is_none r) (over (file_out newer (shape_of (header_of w)) (take (stored (header_of w)) a)) old) old
