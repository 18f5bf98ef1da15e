-- Reading a header text from the left, as functions of what is left of it. Where a piece does not stand, nothing is
-- left: no piece can be read off nothing, and a right header ends with its newline, so a text that failed once is never
-- taken.
use Rattle.std.specs.Prelude.{ℕ, zero, suc, ◌+◌, ◌-◌, ◌*◌, min, List, [], ◌∷◌, ◌++◌, Bool, true, false, ◌&&◌, ◌||◌, cond, leb, eqb, length, get_or}
use Rattle.npy_grammar.specs.Text.{is_digit, is_blank, is_lead, is_space, order_word, rows, columns, key_word, descr, fortran_order, shape}

-- without the bytes at the front that pass
unfoldable pub strip : (ℕ → Bool) → List ℕ → List ℕ
strip f [] = []
strip f (b ∷ t) = cond (f b) (strip f t) (b ∷ t)

-- the byte x taken off the front
unfoldable pub eat : ℕ → List ℕ → List ℕ
eat x [] = []
eat x (b ∷ t) = cond (eqb b x) t []

-- the bytes of a word, one after the other
unfoldable pub eats : List ℕ → List ℕ → List ℕ
eats [] t = t
eats (x ∷ w) t = eats w (eat x t)

-- the byte at the front, 0 where there is none
abbrev pub peek : List ℕ → ℕ
peek t = get_or t 0 0

-- a number: what is left behind it, and its value, 65 for all above
unfoldable pub past_number : List ℕ → List ℕ
past_number [] = []
past_number (b ∷ t) = cond (eqb b 48) t (cond (is_digit b) (strip is_digit t) [])

abbrev pub cap : ℕ → ℕ
cap n = min n 65

unfoldable pub digits_at : ℕ → List ℕ → ℕ
digits_at n [] = n
digits_at n (b ∷ t) = cond (is_digit b) (digits_at (cap (10 * n + (b - 48))) t) n

unfoldable pub number_at : List ℕ → ℕ
number_at [] = 0
number_at (b ∷ t) = cond (eqb b 48) 0 (digits_at (b - 48) t)

-- ---- tuples

-- what is left, and the numbers read
pub record Got : Type 0 where
  pub rest : List ℕ
  pub shape : List ℕ

abbrev pub got : List ℕ → List ℕ → Got
got r s = record { rest = r; shape = s }

-- a comma, with the blanks before and behind it
abbrev pub past_comma : List ℕ → List ℕ
past_comma r = strip is_blank (eat 44 (strip is_blank r))

-- behind a number, s being the numbers so far: at most f numbers more and the closing bracket, which wants a comma
-- before it where s has one number
unfoldable pub more_numbers : ℕ → List ℕ → List ℕ → Got
more_numbers zero s r = got [] s
more_numbers (suc f) s r =
    cond (eqb (peek (strip is_blank r)) 44)
    (cond (eqb (peek (past_comma r)) 41) (got (eat 41 (past_comma r)) s) (more_numbers f (s ++ (number_at (past_comma r) ∷ [])) (past_number (past_comma r))))
    (cond (leb 2 (length s)) (got (eat 41 (strip is_blank r)) s) (got [] s))

-- behind the opening bracket and its blanks
unfoldable pub inside_tuple : ℕ → List ℕ → Got
inside_tuple f t = cond (eqb (peek t) 41) (got (eat 41 t) []) (more_numbers f (number_at t ∷ []) (past_number t))

abbrev pub read_tuple : ℕ → List ℕ → Got
read_tuple f r = inside_tuple f (strip is_blank (eat 40 r))

-- ---- values of the other keys

unfoldable pub is_quote : ℕ → Bool
is_quote b = eqb b 39 || eqb b 34

-- behind the quote and <f
abbrev pub past_kind : List ℕ → List ℕ
past_kind r = eats (60 ∷ 102 ∷ []) (eat (peek r) r)

-- a quoted <f8 or <f4: what is left behind it, and the bytes of a value
unfoldable pub past_width : List ℕ → List ℕ
past_width r =
    cond (is_quote (peek r))
    (cond (eqb (peek (past_kind r)) 56) (eat (peek r) (eat 56 (past_kind r))) (eat (peek r) (eat 52 (past_kind r))))
    []

unfoldable pub width_at : List ℕ → ℕ
width_at r = cond (eqb (peek (past_kind r)) 56) 8 4

-- True or False: what is left behind it, and 2 or 1
unfoldable pub past_order : List ℕ → List ℕ
past_order r = cond (eqb (peek r) 84) (eats (order_word columns) r) (eats (order_word rows) r)

unfoldable pub order_at : List ℕ → ℕ
order_at r = cond (eqb (peek r) 84) 2 1

-- ---- items

-- what is left, and what was seen: width 0, order 0, given 0 where the key has not been
pub record Seen : Type 0 where
  pub rest : List ℕ
  pub width : ℕ
  pub order : ℕ
  pub given : ℕ
  pub shape : List ℕ

abbrev pub with_rest : Seen → List ℕ → Seen
with_rest s u = record { rest = u; width = s.width; order = s.order; given = s.given; shape = s.shape }

abbrev pub with_width : Seen → ℕ → List ℕ → Seen
with_width s w u = record { rest = u; width = w; order = s.order; given = s.given; shape = s.shape }

abbrev pub with_order : Seen → ℕ → List ℕ → Seen
with_order s o u = record { rest = u; width = s.width; order = o; given = s.given; shape = s.shape }

abbrev pub with_shape : Seen → Got → Seen
with_shape s g = record { rest = g.rest; width = s.width; order = s.order; given = 1; shape = g.shape }

abbrev pub failed : Seen → Seen
failed s = with_rest s []

-- behind the opening quote q of a key: the word, the quote, the colon, and blanks
unfoldable pub past_key : ℕ → List ℕ → List ℕ → List ℕ
past_key q w r = strip is_blank (eat 58 (strip is_blank (eat q (eats w r))))

unfoldable pub read_descr : Seen → List ℕ → Seen
read_descr s r = cond (eqb s.width 0) (with_width s (width_at r) (past_width r)) (failed s)

unfoldable pub read_order : Seen → List ℕ → Seen
read_order s r = cond (eqb s.order 0) (with_order s (order_at r) (past_order r)) (failed s)

unfoldable pub read_shape : ℕ → Seen → List ℕ → Seen
read_shape f s r = cond (eqb s.given 0) (with_shape s (read_tuple f r)) (failed s)

unfoldable pub read_key : ℕ → Seen → ℕ → List ℕ → Seen
read_key f s q r =
    cond (eqb (peek r) 100)
    (read_descr s (past_key q (key_word descr) r))
    (cond (eqb (peek r) 102) (read_order s (past_key q (key_word fortran_order) r)) (read_shape f s (past_key q (key_word shape) r)))

abbrev pub blanked : Seen → List ℕ
blanked s = strip is_blank s.rest

unfoldable pub read_item : ℕ → Seen → Seen
read_item f s = cond (is_quote (peek (blanked s))) (read_key f s (peek (blanked s)) (eat (peek (blanked s)) (blanked s))) (failed s)

-- ---- the whole header

abbrev pub started : List ℕ → Seen
started t = record { rest = eat 123 (strip is_lead t); width = 0; order = 0; given = 0; shape = [] }

abbrev pub comma_past : Seen → Seen
comma_past s = with_rest s (eat 44 (blanked s))

abbrev pub items : ℕ → List ℕ → Seen
items f t = read_item f (comma_past (read_item f (comma_past (read_item f (started t)))))

unfoldable pub past_close : List ℕ → List ℕ
past_close r = cond (eqb (peek (strip is_blank r)) 44) (eat 125 (past_comma r)) (eat 125 (strip is_blank r))

-- nothing is left but the newline
unfoldable pub is_last : List ℕ → Bool
is_last r = eqb (length r) 1 && eqb (peek r) 10

unfoldable pub taken : ℕ → List ℕ → Bool
taken f t = is_last (strip is_space (past_close (items f t).rest))
