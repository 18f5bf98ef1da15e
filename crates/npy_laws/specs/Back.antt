-- What was written is read back: the same lengths and the same floats. A NaN comes back as a NaN: in the logic all NaNs
-- are one value.
use Rattle.std.specs.Prelude.{Ok, ℕ, zero, suc, ◌+◌, ◌-◌, ◌*◌, ◌/◌, ◌%◌, ◌^◌, ◌≤◌, ◌<◌}
use Rattle.std.specs.Prelude.{Bool, true, false, ◌&&◌, ◌||◌, ◌≡◌, refl, T, leb, eqb, get_or, take, Float}
use mathlib.Core.List.{List, [], ◌∷◌, ◌++◌, append_assoc, append-nil}
use Rattle.std.proofs.Math.Path.{sym, ap₂, subst}
use Rattle.std.proofs.Common.{ap, ◌∙◌, pow-suc}
use native.Mathlib.Omega.{arith}
use Rattle.std.proofs.Math.ListN.{length, drop, length-append}
use Rattle.std.specs.Float.{nan, binary64}
use Rattle.std.specs.Float.Ieee.{of_bits, to_bits, fits}
use borrow.Author.Tests.{leb-true, le-leb, eq-eqb}
use Rattle.lists.specs.Bytes.{bytes}
use Rattle.lists.specs.Table.{table, length-table, table_same, table-all}
use Rattle.lists.specs.Test.{and_left, and_right}
use Rattle.model.specs.Word.{word_of}
use Rattle.model_texts.specs.Printed.{decimal}
use Rattle.sheet_text.specs.Decimal.{decimal-most}
use Rattle.npy_grammar.specs.Text.{eight, rows, Values}
use Rattle.npy_files.specs.Frame.{opening}
use Rattle.npy_files.specs.Shapes.{all_in_range, product, good_shape, lengths_of, head_of}
use Rattle.npy_files.specs.Values.{bytes_of}
use Rattle.npy_files.specs.Reads.{Reading}
use Rattle.npy_files.specs.Writes.{low_bytes, followed, listed, closing, tuple_out, dict_out, head_out, data_out, version_of, head_bytes, length_bytes}
use Rattle.npy_files.specs.Writes.{start_out, front_out, file_out}
use Rattle.npy_files.specs.Once.{good-range}
use Rattle.npy_bytes.specs.Words.{length_data}
use Rattle.npy_laws.specs.Spelt.{written-right}
use Rattle.npy_laws.specs.Forms.{format_of, data_as, start_as, form_out, in_rows, any_form}

-- every float is one that 64 bits hold
unfoldable pub all_fit : List Float → Type 0
all_fit xs = (k : ℕ) → k < length xs → T (fits binary64 (get_or xs k nan))

data-same : (xs : List Float) → data_as eight xs ≡ data_out xs
unfolding data_as data_out bytes_of format_of
data-same [] = refl
data-same (x ∷ xs) = ap (λ (l : List ℕ). low_bytes 8 (to_bits binary64 x) ++ l) (data-same xs)

start-bytes : (newer : Bool) → length (start_out newer) + head_bytes newer ≡ 128
unfolding start_out low_bytes
start-bytes true = refl
start-bytes false = refl

-- ---- how long the header is

two_digits : (x : ℕ) → (leb 1 x && leb x 64) ≡ true → length (decimal x) ≤ 2
two_digits x h = let l = leb-most x h in decimal-most 2 x (omega arith) (omega arith) (omega arith)
  where
    leb-most : (x : ℕ) → (leb 1 x && leb x 64) ≡ true → x ≤ 64
    leb-most x h = leb-true x 64 (and_right (leb 1 x) (leb x 64) h)

followed-most : (s : List ℕ) → all_in_range s ≡ true → length (followed s) ≤ 4 * length s
unfolding all_in_range followed
followed-most [] h = omega arith
followed-most (x ∷ s) h =
    omega (
      arith,
      length-append (decimal x) (followed s),
      two_digits x (and_left (leb 1 x && leb x 64) (all_in_range s) h),
      followed-most s (and_right (leb 1 x && leb x 64) (all_in_range s) h),
    )

listed-most : (s : List ℕ) → all_in_range s ≡ true → length (listed s) ≤ 4 * length s
unfolding all_in_range listed
listed-most [] h = omega arith
listed-most (x ∷ s) h =
    omega (
      arith,
      length-append (decimal x) (followed s),
      two_digits x (and_left (leb 1 x && leb x 64) (all_in_range s) h),
      followed-most s (and_right (leb 1 x && leb x 64) (all_in_range s) h),
    )

closing-most : (s : List ℕ) → length (closing s) ≤ 1
unfolding closing
closing-most [] = omega arith
closing-most (x ∷ []) = omega arith
closing-most (x ∷ (y ∷ s)) = omega arith

module _ (s : List ℕ) (good : good_shape s ≡ true) where
  few : length s ≤ 4
  unfolding good_shape
  few = leb-true (length s) 4 (and_left (leb (length s) 4) (all_in_range s) (and_left (leb (length s) 4 && all_in_range s) (leb (product s) 4096) good))

  dict-most : length (dict_out s) ≤ 115
  unfolding dict_out tuple_out bytes
  dict-most =
      omega (
        arith,
        few,
        length-append (listed s) (closing s ++ (41 ∷ [])),
        length-append (closing s) (41 ∷ []),
        listed-most s (good-range s good),
        closing-most s,
        length-append (40 ∷ (listed s ++ (closing s ++ (41 ∷ [])))) (44 ∷ 32 ∷ 125 ∷ []),
      )

  head-long : (n : ℕ) → 116 ≤ n → length (head_out n s) ≡ n
  unfolding head_out
  head-long n h =
      omega (
        arith,
        dict-most,
        length-append {A = ℕ} (dict_out s) (table (n - 1 - length (dict_out s)) (λ k. 32) ++ (10 ∷ [])),
        length-append {A = ℕ} (table (n - 1 - length (dict_out s)) (λ k. 32)) (10 ∷ []),
        length-table {A = ℕ} (λ k. 32) (n - 1 - length (dict_out s)),
      )

  -- ---- the file

  module _ (newer : Bool) where
    enough : (116 ≤ head_bytes newer) × (head_bytes newer < 256 ^ length_bytes newer)
    enough = each newer
      where
        each : (b : Bool) → (116 ≤ head_bytes b) × (head_bytes b < 256 ^ length_bytes b)
        each true = (omega arith, omega arith)
        each false = (omega arith, omega arith)

    abbrev head : List ℕ
    head = head_out (head_bytes newer) s

    long-head : length head ≡ head_bytes newer
    long-head = head-long (head_bytes newer) enough.0

    module _ (xs : List Float) (long : length xs ≡ product s) where
      -- the file that is written is one of the forms
      form-is : form_out newer head eight xs ≡ file_out newer s xs
      unfolding form_out start_as file_out front_out start_out
      form-is =
          ap₂ (λ (m : ℕ) (d : List ℕ). (opening (version_of newer) ++ low_bytes (length_bytes newer) m) ++ (head ++ d)) long-head (data-same xs)
          ∙ sym (append_assoc (opening (version_of newer) ++ low_bytes (length_bytes newer) (head_bytes newer)) head (data_out xs))

      pub file-long : length (file_out newer s xs) ≡ 128 + 8 * length xs
      unfolding file_out front_out
      file-long =
          omega (
            arith,
            length-append (start_out newer ++ head) (data_out xs),
            length-append (start_out newer) head,
            start-bytes newer,
            long-head,
            length_data xs,
          )

      -- the header of the shape, and every float again
      pub read_back : all_fit xs → (old : List Float) → length xs ≤ length old
          → Reading (file_out newer s xs) old (Ok (word_of (head_of s))) (xs ++ drop (length xs) old)
      unfolding all_fit format_of
      read_back f old l =
          subst (λ (t : List ℕ). Reading t old (Ok (word_of (head_of s))) (xs ++ drop (length xs) old)) form-is
          (any_form newer head (record { width = eight; order = rows; shape = s }) (written-right s (good-range s good) (head_bytes newer))
          (subst (λ (n : ℕ). n < 256 ^ length_bytes newer) (sym long-head) enough.1) good xs xs long (in_rows (lengths_of s) xs) f old l)
