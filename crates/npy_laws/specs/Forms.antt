-- Document 02, W12: the same array in any form reads to the same polynomial. A form is a version, any right text of the
-- header, f64s or, where the values are f32's, f32s, rows or columns.
use Prim.Native.Nat.{ℕ, zero, suc, ◌+◌, ◌-◌, ◌*◌, ◌/◌, ◌%◌, ◌^◌, ◌≤◌, ◌<◌}
use mathlib.Core.List.{List, [], ◌∷◌, ◌++◌, append_assoc}
use Rattle.std.specs.Prelude.{Ok, Bool, false, ◌||◌, ◌≡◌, T, leb, eqb, take, Float}
use Rattle.std.proofs.Math.Bool.{true}
use Rattle.std.proofs.Math.Path.{refl, sym, ap, subst}
use Rattle.std.proofs.Common.{ap₂, ◌∙◌, pow-suc, add_comm, drop_at, get_or-append-add}
use native.Mathlib.Omega.{arith}
use Rattle.std.proofs.Math.Nat.{mul-suc}
use Rattle.std.proofs.Math.ListN.{length, get_or, drop, length-append}
use Rattle.std.proofs.Math.Seq.{take_at}
use Rattle.std.specs.Float.{Format, binary32, binary64}
use Rattle.std.specs.Float.Ieee.{nan, of_bits, to_bits, fits}
use Rattle.std.specs.Float.Ieee.Bits.{of_bits-to_bits, to_bits-lt}
use borrow.Author.Tests.{le-leb, eq-eqb}
use Rattle.lists.specs.Table.{table, table_same, table-all}
use Rattle.model.specs.Results.{Answer}
use Rattle.model.specs.Header.{count}
use Rattle.model.specs.Word.{word_of}
use Rattle.shape_words.specs.Lengths.{Lengths, lengths_of_lem}
use Rattle.npy_grammar.specs.Text.{Width, eight, four, Order, rows, columns, Values, Right}
use Rattle.npy_files.specs.Frame.{byte_at, little, starts_with, opening, is_version, head_start, head_length, data_start, is_framed, head_text}
use Rattle.npy_files.specs.Shapes.{product, good_shape, lengths_of, head_of}
use Rattle.npy_files.specs.Sizes.{product-count}
use Rattle.npy_files.specs.Values.{bytes_of, value_at, file_place, file_value, data_fits}
use Rattle.npy_files.specs.Reads.{Says, is_room, Reading}
use Rattle.npy_files.specs.Writes.{low_bytes, version_of, length_bytes}
use Rattle.npy_files.specs.Once.{reading-once}
use Rattle.npy_bytes.specs.Words.{length-low}
use Rattle.npy_columns.specs.Places.{columns-lt}
use Rattle.npy_reading.specs.Heads.{good-few, shape-regular}

-- ---- the forms

unfoldable pub format_of : Width → Format
format_of eight = binary64
format_of four = binary32

-- the bytes of values
unfoldable pub data_as : Width → List Float → List ℕ
data_as w [] = []
data_as w (x ∷ xs) = low_bytes (bytes_of w) (to_bits (format_of w) x) ++ data_as w xs

-- the version and the length of the header's text, m bytes
unfoldable pub start_as : Bool → ℕ → List ℕ
start_as newer m = opening (version_of newer) ++ low_bytes (length_bytes newer) m

-- h the header's text, ys the values as the file lists them
unfoldable pub form_out : Bool → List ℕ → Width → List Float → List ℕ
form_out newer h w ys = start_as newer (length h) ++ (h ++ data_as w ys)

-- ys are the coefficients xs as a file of this order lists them
pub record InOrder (o : Order) (n : List ℕ) (xs ys : List Float) : Type 0 where
  pub many : length ys ≡ length xs
  pub each : (p : ℕ) → p < length xs → get_or ys (file_place o n p) nan ≡ get_or xs p nan

pub in_rows : (n : List ℕ) (xs : List Float) → InOrder rows n xs xs
unfolding file_place
in_rows n xs = record { many = refl; each = λ p h. refl }

-- ---- bytes

-- what stands before is passed over
pub little-past : (n : ℕ) (a t : List ℕ) (p : ℕ) → little n (a ++ t) (length a + p) ≡ little n t p
unfolding little
little-past zero a t p = refl
little-past (suc n) a t p =
    let e : suc (length a + p) ≡ length a + suc p = omega arith in
    rw (get_or-append-add a t p 0, e, little-past n a t (suc p))

little-low : (n w : ℕ) (r : List ℕ) → w < 256 ^ n → little n (low_bytes n w ++ r) 0 ≡ w
unfolding little low_bytes
little-low zero w r h = omega arith
little-low (suc n) w r h =
    let k = little-past n (w % 256 ∷ []) (low_bytes n (w / 256) ++ r) 0 in
    let i = little-low n (w / 256) r (omega (arith, h, pow-suc 256 n)) in
    omega (arith, k, i)

word_small : (w : Width) (x : Float) → T (fits (format_of w) x) → to_bits (format_of w) x < 256 ^ bytes_of w
unfolding format_of bytes_of
word_small eight x h = omega (arith, to_bits-lt binary64 x h)
word_small four x h = omega (arith, to_bits-lt binary32 x h)

-- every float is one that the width holds
abbrev pub AllFit : Width → List Float → Type 0
AllFit w xs = (k : ℕ) → k < length xs → T (fits (format_of w) (get_or xs k nan))

module _ (w : Width) where
  pub length_as : (xs : List Float) → length (data_as w xs) ≡ bytes_of w * length xs
  unfolding data_as
  length_as [] = sym (mul-none (bytes_of w))
    where
      mul-none : (n : ℕ) → n * 0 ≡ 0
      mul-none n = omega arith
  length_as (x ∷ xs) =
      length-append (low_bytes (bytes_of w) (to_bits (format_of w) x)) (data_as w xs)
      ∙ (ap₂ (λ (a b : ℕ). a + b) (length-low (bytes_of w) (to_bits (format_of w) x)) (length_as xs)
      ∙ (add_comm (bytes_of w) (bytes_of w * length xs) ∙ sym (mul-suc (bytes_of w) (length xs))))

  data-word : (xs : List Float) (k : ℕ) → AllFit w xs → k < length xs
      → little (bytes_of w) (data_as w xs) (bytes_of w * k) ≡ to_bits (format_of w) (get_or xs k nan)
  unfolding data_as
  data-word [] k f h = absurd (omega arith)
  data-word (x ∷ xs) zero f h =
      ap (little (bytes_of w) (low_bytes (bytes_of w) (to_bits (format_of w) x) ++ data_as w xs)) (none (bytes_of w))
      ∙ little-low (bytes_of w) (to_bits (format_of w) x) (data_as w xs) (word_small w x (f 0 (omega arith)))
    where
      none : (n : ℕ) → n * 0 ≡ 0
      none n = omega arith
  data-word (x ∷ xs) (suc k) f h =
      let z : ℕ = to_bits (format_of w) x in
      let e : bytes_of w * suc k ≡ length (low_bytes (bytes_of w) z) + bytes_of w * k =
      mul-suc (bytes_of w) k ∙ (add_comm (bytes_of w * k) (bytes_of w) ∙ ap (λ (n : ℕ). n + bytes_of w * k) (sym (length-low (bytes_of w) z))) in
      ap (little (bytes_of w) (low_bytes (bytes_of w) z ++ data_as w xs)) e
      ∙ (little-past (bytes_of w) (low_bytes (bytes_of w) z) (data_as w xs) (bytes_of w * k) ∙ data-word xs k (λ i l. f (suc i) (omega arith)) (omega arith))

value-is : (w : Width) (t : List ℕ) (d k : ℕ) → value_at w t d k ≡ of_bits (format_of w) (little (bytes_of w) t (d + bytes_of w * k))
unfolding value_at format_of bytes_of
value-is eight t d k = refl
value-is four t d k = refl

-- ---- the frame

start-long : (newer : Bool) (m : ℕ) → length (start_as newer m) ≡ 8 + length_bytes newer
unfolding start_as low_bytes
start-long true m = refl
start-long false m = refl

start-begins : (newer : Bool) (m : ℕ) (r : List ℕ) → head_start (start_as newer m ++ r) ≡ 8 + length_bytes newer
unfolding head_start is_version starts_with start_as low_bytes
start-begins true m r = refl
start-begins false m r = refl

start-version : (newer : Bool) (m : ℕ) (r : List ℕ) → (is_version 1 (start_as newer m ++ r) || is_version 2 (start_as newer m ++ r)) ≡ true
unfolding is_version starts_with start_as low_bytes
start-version true m r = refl
start-version false m r = refl

start-says : (newer : Bool) (m : ℕ) (r : List ℕ) → m < 256 ^ length_bytes newer → head_length (start_as newer m ++ r) ≡ m
unfolding head_length start_as
start-says true m r h =
    ap (λ (n : ℕ). little (n - 8) ((opening 2 ++ low_bytes 4 m) ++ r) 8) (start-begins true m r)
    ∙ (ap (λ (l : List ℕ). little 4 l 8) (append_assoc (opening 2) (low_bytes 4 m) r)
    ∙ (little-past 4 (opening 2) (low_bytes 4 m ++ r) 0 ∙ little-low 4 m r h))
start-says false m r h =
    ap (λ (n : ℕ). little (n - 8) ((opening 1 ++ low_bytes 2 m) ++ r) 8) (start-begins false m r)
    ∙ (ap (λ (l : List ℕ). little 2 l 8) (append_assoc (opening 1) (low_bytes 2 m) r)
    ∙ (little-past 2 (opening 1) (low_bytes 2 m ++ r) 0 ∙ little-low 2 m r h))

-- ---- a value's number stays below the count

place-below : (o : Order) (s : List ℕ) → good_shape s ≡ true → (p : ℕ) → p < product s → file_place o (lengths_of s) p < product s
unfolding file_place
place-below rows s g p h = h
place-below columns s g p h =
    let e : product s ≡ count (lengths_of s) = product-count s (good-few s g) in
    rw e (columns-lt (lengths_of s) (lengths_of_lem (shape-regular s g).rules) p (rw (← e) h))

-- ---- the law

module _ (newer : Bool) (h : List ℕ) (v : Values) (right : Right h v) (short : length h < 256 ^ length_bytes newer) (good : good_shape v.shape ≡ true)
    (xs ys : List Float) (many : length xs ≡ product v.shape) (order : InOrder v.order (lengths_of v.shape) xs ys) (fit : AllFit v.width ys) where
  abbrev t : List ℕ
  t = form_out newer h v.width ys

  abbrev rest : List ℕ
  rest = h ++ data_as v.width ys

  begins : head_start t ≡ 8 + length_bytes newer
  unfolding form_out
  begins = start-begins newer (length h) rest

  says-long : head_length t ≡ length h
  unfolding form_out
  says-long = start-says newer (length h) rest short

  ends : data_start t ≡ 8 + length_bytes newer + length h
  ends = omega (arith, begins, says-long)

  file-long : length t ≡ data_start t + bytes_of v.width * length ys
  unfolding form_out
  file-long =
      omega (
        arith,
        ends,
        length-append (start_as newer (length h)) rest,
        start-long newer (length h),
        length-append h (data_as v.width ys),
        length_as v.width ys,
      )

  framed : is_framed t ≡ true
  unfolding is_framed form_out
  framed =
      rw (
        start-version newer (length h) rest,
        le-leb (head_start t) (length t) (omega (arith, begins, ends, file-long)),
        le-leb (data_start t) (length t) (omega (arith, file-long)),
      )

  head-is : head_text t ≡ h
  unfolding head_text form_out
  head-is =
      rw (says-long, begins) (
      ap (take (length h)) (drop_at (start_as newer (length h)) rest (8 + length_bytes newer) (start-long newer (length h)))
      ∙ take_at h (data_as v.width ys) (length h) refl
      )

  pub form-says : Says t v
  form-says = record { framed = framed; right = rw head-is right }

  value_at_lem : (k : ℕ) → k < length ys → value_at v.width t (data_start t) k ≡ get_or ys k nan
  unfolding form_out
  value_at_lem k l =
      let w : Width = v.width in
      let a : List ℕ = start_as newer (length h) ++ h in
      let e : data_start t + bytes_of w * k ≡ length a + bytes_of w * k =
      omega (arith, ends, length-append (start_as newer (length h)) h, start-long newer (length h)) in
      value-is w t (data_start t) k
      ∙ (ap (of_bits (format_of w)) (ap₂ (little (bytes_of w)) (sym (append_assoc (start_as newer (length h)) h (data_as w ys))) e
      ∙ (little-past (bytes_of w) a (data_as w ys) (bytes_of w * k) ∙ data-word w ys k fit l))
      ∙ of_bits-to_bits (format_of w) (get_or ys k nan) (fit k l))

  file_value_lem : (p : ℕ) → p < length xs → file_value t v p ≡ get_or xs p nan
  file_value_lem p l =
      let b = place-below v.order v.shape good p (omega (arith, l, many)) in
      value_at_lem (file_place v.order (lengths_of v.shape) p) (omega (arith, b, many, order.many)) ∙ order.each p l

  -- the header of the shape, and every coefficient
  pub any_form : (old : List Float) → length xs ≤ length old → Reading t old (Ok (word_of (head_of v.shape))) (xs ++ drop (length xs) old)
  unfolding is_room data_fits
  any_form old l =
      let room : is_room v (length old) ≡ true = rw (good, le-leb (product v.shape) (length old) (omega (arith, l, many))) in
      let full : bytes_of v.width * length ys ≡ bytes_of v.width * product v.shape = ap (λ (n : ℕ). bytes_of v.width * n) (order.many ∙ many) in
      let all : data_fits t v ≡ true = eq-eqb (length t) (data_start t + bytes_of v.width * product v.shape) (omega (arith, file-long, full)) in
      let same : table (product v.shape) (file_value t v) ≡ xs =
      ap (λ (n : ℕ). table n (file_value t v)) (sym many) ∙ (table_same (file_value t v) (λ k. get_or xs k nan) (length xs) file_value_lem ∙
      table-all nan xs) in
      subst (λ (z : List Float). Reading t old (Ok (word_of (head_of v.shape))) z)
      (ap₂ (λ (a : List Float) (n : ℕ). a ++ drop n old) same (sym many))
      (Reading.done v form-says room all)

  -- and nothing else: whatever the form, the same word and the same coefficients
  pub form-reads : {old x : List Float} {a : Answer} → length xs ≤ length old → Reading t old a x
      → (a ≡ Ok (word_of (head_of v.shape))) × (x ≡ xs ++ drop (length xs) old)
  form-reads {old} l r = reading-once r (any_form old l)
