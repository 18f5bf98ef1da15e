-- Document 02, W2 and W12: what a right header text of an array file is, once for both versions, both widths and both
-- orders.
-- A text is printed from its values with every freedom named: the order of the keys, blanks, quotes, closing commas,
-- padding. `u` is always the text behind.
use Rattle.std.specs.Prelude.{ℕ, ◌+◌, ◌-◌, ◌*◌, List, [], ◌∷◌, ◌++◌, map, Bool, true, ◌&&◌, ◌||◌, ◌≡◌, leb, eqb}

-- the byte that pads
unfoldable pub is_space : ℕ → Bool
is_space b = eqb b 32

-- before the brace: space and tab
unfoldable pub is_lead : ℕ → Bool
is_lead b = eqb b 32 || eqb b 9

-- inside the braces: space, tab, line feed, form feed, carriage return
unfoldable pub is_blank : ℕ → Bool
is_blank b = (((eqb b 32 || eqb b 9) || eqb b 10) || eqb b 12) || eqb b 13

unfoldable pub is_digit : ℕ → Bool
is_digit b = leb 48 b && leb b 57

-- every byte passes
unfoldable pub all : (ℕ → Bool) → List ℕ → Bool
all f [] = true
all f (b ∷ t) = f b && all f t

-- any number of such bytes, none too
pub record Run (f : ℕ → Bool) : Type 0 where
  pub bytes : List ℕ
  pub only : all f bytes ≡ true

abbrev pub Blanks : Type 0
Blanks = Run is_blank

-- ---- numbers: 0, or a digit 1 to 9 and any digits, as many as there are

pub data Number : Type 0 where
  nought : Number
  counted : (d : ℕ) → is_digit d ≡ true → eqb d 48 ≡ Bool.false → Run is_digit → Number

unfoldable pub number_text : Number → List ℕ → List ℕ
number_text nought u = 48 ∷ u
number_text (counted d p q r) u = d ∷ (r.bytes ++ u)

-- n, then these digits behind it
unfoldable pub digits_value : ℕ → List ℕ → ℕ
digits_value n [] = n
digits_value n (b ∷ t) = digits_value (10 * n + (b - 48)) t

unfoldable pub number_value : Number → ℕ
number_value nought = 0
number_value (counted d p q r) = digits_value (d - 48) r.bytes

-- ---- the end of a list in brackets: a comma where one is allowed, and the closing bracket c, blanks before each

pub data Close : Type 0 where
  bare : Blanks → Close
  comma : Blanks → Blanks → Close

unfoldable pub close_text : ℕ → Close → List ℕ → List ℕ
close_text c (bare b) u = b.bytes ++ (c ∷ u)
close_text c (comma a b) u = a.bytes ++ (44 ∷ (b.bytes ++ (c ∷ u)))

-- ---- tuples

-- a comma and one number more
pub record Next : Type 0 where
  pub before : Blanks
  pub behind : Blanks
  pub number : Number

unfoldable pub next_text : Next → List ℕ → List ℕ
next_text n u = n.before.bytes ++ (44 ∷ (n.behind.bytes ++ number_text n.number u))

unfoldable pub nexts_text : List Next → List ℕ → List ℕ
nexts_text [] u = u
nexts_text (n ∷ ns) u = next_text n (nexts_text ns u)

-- none: ( ); one: its comma must stand; several
pub data Tuple : Type 0 where
  none : Blanks → Tuple
  one : Blanks → Number → Blanks → Blanks → Tuple
  several : Blanks → Number → Next → List Next → Close → Tuple

unfoldable pub tuple_text : Tuple → List ℕ → List ℕ
tuple_text (none b) u = 40 ∷ (b.bytes ++ (41 ∷ u))
tuple_text (one a n b c) u = 40 ∷ (a.bytes ++ number_text n (close_text 41 (comma b c) u))
tuple_text (several a n m ms c) u = 40 ∷ (a.bytes ++ number_text n (next_text m (nexts_text ms (close_text 41 c u))))

unfoldable pub nexts_value : List Next → List ℕ
nexts_value ns = map (λ m. number_value m.number) ns

unfoldable pub tuple_value : Tuple → List ℕ
tuple_value (none b) = []
tuple_value (one a n b c) = number_value n ∷ []
tuple_value (several a n m ms c) = number_value n ∷ (number_value m.number ∷ nexts_value ms)

-- ---- items

pub data Quote : Type 0 where
  single : Quote
  double : Quote

unfoldable pub quote_byte : Quote → ℕ
quote_byte single = 39
quote_byte double = 34

-- a word between two quotes of one kind
unfoldable pub quoted : Quote → List ℕ → List ℕ → List ℕ
quoted q w u = quote_byte q ∷ (w ++ (quote_byte q ∷ u))

-- little-endian f64 and f32
pub data Width : Type 0 where
  eight : Width
  four : Width

-- last index fastest, or first
pub data Order : Type 0 where
  rows : Order
  columns : Order

-- <f8, <f4
unfoldable pub width_word : Width → List ℕ
width_word eight = 60 ∷ 102 ∷ 56 ∷ []
width_word four = 60 ∷ 102 ∷ 52 ∷ []

-- False, True
unfoldable pub order_word : Order → List ℕ
order_word rows = 70 ∷ 97 ∷ 108 ∷ 115 ∷ 101 ∷ []
order_word columns = 84 ∷ 114 ∷ 117 ∷ 101 ∷ []

pub data Key : Type 0 where
  descr : Key
  fortran_order : Key
  shape : Key

unfoldable pub key_word : Key → List ℕ
key_word descr = 100 ∷ 101 ∷ 115 ∷ 99 ∷ 114 ∷ []
key_word fortran_order = 102 ∷ 111 ∷ 114 ∷ 116 ∷ 114 ∷ 97 ∷ 110 ∷ 95 ∷ 111 ∷ 114 ∷ 100 ∷ 101 ∷ 114 ∷ []
key_word shape = 115 ∷ 104 ∷ 97 ∷ 112 ∷ 101 ∷ []

-- what a header says
pub record Values : Type 0 where
  pub width : Width
  pub order : Order
  pub shape : List ℕ

-- a value as it is written
pub data Written : Type 0 where
  a_width : Quote → Width → Written
  an_order : Order → Written
  a_shape : Tuple → Written

unfoldable pub value_text : Written → List ℕ → List ℕ
value_text (a_width q w) u = quoted q (width_word w) u
value_text (an_order o) u = order_word o ++ u
value_text (a_shape t) u = tuple_text t u

unfoldable pub key_of : Written → Key
key_of (a_width q w) = descr
key_of (an_order o) = fortran_order
key_of (a_shape t) = shape

-- a written value agrees with what a header says
unfoldable pub Agrees : Written → Values → Type 0
Agrees (a_width q w) v = w ≡ v.width
Agrees (an_order o) v = o ≡ v.order
Agrees (a_shape t) v = tuple_value t ≡ v.shape

pub record Item : Type 0 where
  pub before : Blanks
  pub quote : Quote
  pub colon : Blanks
  pub behind : Blanks
  pub written : Written

unfoldable pub item_text : Item → List ℕ → List ℕ
item_text i u = i.before.bytes ++ quoted i.quote (key_word (key_of i.written)) (i.colon.bytes ++ (58 ∷ (i.behind.bytes ++ value_text i.written u)))

-- ---- the whole header: three items, each of the three keys once, in any order

unfoldable pub Apart : Key → Key → Type 0
Apart a b = a ≡ b → ⊥

pub record Header : Type 0 where
  pub lead : Run is_lead
  pub first : Item
  pub comma₁ : Blanks
  pub second : Item
  pub comma₂ : Blanks
  pub third : Item
  pub close : Close
  pub pad : Run is_space
  pub apart₁ : Apart (key_of first.written) (key_of second.written)
  pub apart₂ : Apart (key_of first.written) (key_of third.written)
  pub apart₃ : Apart (key_of second.written) (key_of third.written)

-- to its very last byte, a newline
unfoldable pub header_text : Header → List ℕ
header_text h =
    h.lead.bytes
    ++ (123
    ∷ item_text h.first
    (h.comma₁.bytes
    ++ (44 ∷ item_text h.second (h.comma₂.bytes ++ (44 ∷ item_text h.third (close_text 125 h.close (h.pad.bytes ++ (10 ∷ []))))))))

-- the text t is a right header that says v
pub record Right (t : List ℕ) (v : Values) : Type 0 where
  pub header : Header
  pub text : t ≡ header_text header
  pub says₁ : Agrees header.first.written v
  pub says₂ : Agrees header.second.written v
  pub says₃ : Agrees header.third.written v
