-- What `recipe` prints when it is done is read back: the header word, and every float.
use Prim.Native.Nat.{ℕ, zero, suc, ◌+◌, ◌-◌, ◌*◌, ◌/◌, ◌%◌, ◌^◌, ◌≤◌, ◌<◌}
use mathlib.Core.List.{List, [], ◌∷◌, ◌++◌, map, append_assoc}
use Rattle.std.specs.Prelude.{Bool, ◌≡◌, refl, T, ltb, Float}
use Rattle.std.proofs.Math.Bool.{true}
use Rattle.std.proofs.Math.Path.{sym, ap}
use Rattle.std.proofs.Common.{ap₂, ◌∙◌, subst, length-append, shr-shr}
use native.Mathlib.Omega.{arith}
use Rattle.std.proofs.Math.Nat.{div-one}
use Rattle.std.proofs.Math.ListN.{length, get_or}
use Rattle.std.proofs.lemmas.List.{length-map}
use Rattle.std.proofs.Math.Seq.{get_or-append-add, get_or_at}
use Rattle.std.specs.Float.Ieee.{nan, binary64, of_bits, to_bits, fits}
use Rattle.std.specs.Float.Ieee.Bits.{of_bits-to_bits, to_bits-lt}
use borrow.Author.Tests.{le-leb, lt-leb, lt-ltb, ne_eqb, eq-eqb, ltb-true, ltb-false}
use Rattle.lists.specs.Every.{every}
use Rattle.lists.specs.Table.{table, length-table, table_at, table_same, table-all}
use Rattle.lists.specs.Test.{decide}
use Rattle.lists.specs.Walk.{walk, walk_more}
use Rattle.model.specs.Header.{stored}
use Rattle.model.specs.Word.{header_of, good_word}
use Rattle.model_texts.specs.Hex.{is_digit, digit_of, digit_for, digit_at, push_digit, is_line, word_at, hex_digit, hex_line, hex_lines}
use Rattle.model_texts.specs.Printed.{done_word, newline, last_digit, decimal, done_text}
use Rattle.sheet_text.specs.Decimal.{decimal_digit, decimal-more}
use Rattle.sheet_text.specs.Texts.{length-line, length-lines}
use Rattle.npy_files.specs.Frame.{byte_at, starts_with}
use Rattle.npy_answers.specs.Answer.{is_decimal, lines_start, line_place, line_here, head_word, value_count, line_value, is_answer, answer_values}

-- ---- digits

digit-is : (d : ℕ) → d < 16 → is_digit (digit_for d) ≡ true
unfolding is_digit digit_for
digit-is d h =
    decide (ltb d 10)
    (λ t. let l = ltb-true d 10 t in rw (t, le-leb 48 (48 + d) (omega arith), le-leb (48 + d) 57 (omega arith)))
    (λ t.
    let l = ltb-false d 10 t in
    rw (t, lt-leb (87 + d) 57 (omega arith), le-leb 48 (87 + d) (omega arith), le-leb 97 (87 + d) (omega arith), le-leb (87 + d) 102 (omega arith)))

digit-says : (d : ℕ) → d < 16 → digit_of (digit_for d) ≡ d
unfolding digit_of digit_for
digit-says d h =
    decide (ltb d 10)
    (λ t. let l = ltb-true d 10 t in rw (t, le-leb 48 (48 + d) (omega arith), le-leb (48 + d) 57 (omega arith)) (omega arith))
    (λ t.
    let l = ltb-false d 10 t in
    rw (t, lt-leb (87 + d) 57 (omega arith), le-leb 48 (87 + d) (omega arith), le-leb 97 (87 + d) (omega arith), le-leb (87 + d) 102 (omega arith))
    (omega arith))

-- ---- lists

left_at : (l r : List ℕ) (k : ℕ) → k < length l → get_or (l ++ r) k 0 ≡ get_or l k 0
left_at [] r k h = absurd (omega arith)
left_at (x ∷ l) r zero h = refl
left_at (x ∷ l) r (suc k) h = left_at l r k (omega arith)

behind-at : (x : ℕ) (l : List ℕ) (j : ℕ) → get_or (x ∷ l) (1 + j) 0 ≡ get_or l j 0
behind-at x l j = let e : 1 + j ≡ suc j = omega arith in ap (λ (k : ℕ). get_or (x ∷ l) k 0) e

map_at : (f : Float → ℕ) (xs : List Float) (k : ℕ) → k < length xs → get_or (map f xs) k 0 ≡ f (get_or xs k nan)
map_at f [] k h = absurd (omega arith)
map_at f (x ∷ xs) zero h = refl
map_at f (x ∷ xs) (suc k) h = map_at f xs k (omega arith)

all-every : (f : ℕ → Bool) (n p : ℕ) → ((q : ℕ) → p ≤ q → q < p + n → f q ≡ true) → every f n p ≡ true
unfolding every
all-every f zero p h = refl
all-every f (suc n) p h = rw (h p (omega arith) (omega arith)) (all-every f n (suc p) (λ q a b. h q (omega arith) (omega arith)))

-- ---- one line, with text before and behind it

pub record LineOf (t : List ℕ) (p w : ℕ) : Type 0 where
  pub line : is_line t p ≡ true
  pub word : word_at t p ≡ w

sixteenth : (x : ℕ) → 16 * (x / 16) + x % 16 ≡ x
sixteenth x = omega arith

module _ (a r : List ℕ) (w : ℕ) where
  abbrev t : List ℕ
  t = a ++ (hex_line w ++ r)

  at-digit : (k : ℕ) → k < 16 → byte_at t (length a + k) ≡ hex_digit w k
  unfolding hex_line
  at-digit k h =
      get_or-append-add a (hex_line w ++ r) k 0
      ∙ (left_at (hex_line w) r k (omega (arith, length-line w))
      ∙ (left_at (table 16 (hex_digit w)) (10 ∷ []) k (omega (arith, length-table (hex_digit w) 16)) ∙ table_at 0 (hex_digit w) 16 k h))

  at_end : byte_at t (length a + 16) ≡ 10
  unfolding hex_line
  at_end =
      get_or-append-add a (hex_line w ++ r) 16 0
      ∙ (left_at (hex_line w) r 16 (omega (arith, length-line w)) ∙ get_or_at (table 16 (hex_digit w)) 10 [] 0 16 (length-table (hex_digit w) 16))

  is_line_lem : is_line t (length a) ≡ true
  unfolding is_line
  is_line_lem = rw (all-every (digit_at t) 16 (length a) one, at_end)
    where
      one : (q : ℕ) → length a ≤ q → q < length a + 16 → digit_at t q ≡ true
      one q l m =
          let k : ℕ = q - length a in
          let e : q ≡ length a + k = omega arith in
          ap (digit_at t) e ∙ (ap is_digit (at-digit k (omega arith)) ∙ digit-is (w / 2 ^ (60 - 4 * k) % 16) (omega arith))

  walked : w < 2 ^ 64 → (n : ℕ) → n ≤ 16 → walk (push_digit t) n (length a) 0 ≡ w / 2 ^ (64 - 4 * n)
  unfolding walk
  walked h zero l = omega (arith, h)
  walked h (suc n) l =
      let m : ℕ = 60 - 4 * n in
      let e : 64 - 4 * n ≡ m + 4 = omega arith in
      let d : 64 - 4 * suc n ≡ m = omega arith in
      walk_more (push_digit t) n (length a) 0
      ∙ (ap₂ (λ (x y : ℕ). 16 * x + y) (walked h n (omega arith) ∙ (ap (λ (i : ℕ). w / 2 ^ i) e ∙ sym (shr-shr w m 4)))
      (ap digit_of (at-digit n (omega arith)) ∙ digit-says (w / 2 ^ m % 16) (omega arith))
      ∙ (sixteenth (w / 2 ^ m) ∙ ap (λ (i : ℕ). w / 2 ^ i) (sym d)))

  pub line-back : w < 2 ^ 64 → LineOf t (length a) w
  unfolding word_at
  line-back h = record { line = is_line_lem; word = walked h 16 (omega arith) ∙ div-one w }

-- ---- lines, one after the other

lines-back : (a ws : List ℕ) → ((k : ℕ) → k < length ws → get_or ws k 0 < 2 ^ 64) → (j : ℕ) → j < length ws
    → LineOf (a ++ hex_lines ws) (length a + 17 * j) (get_or ws j 0)
unfolding hex_lines
lines-back a [] f j h = absurd (omega arith)
lines-back a (w ∷ ws) f zero h =
    let e : length a ≡ length a + 17 * 0 = omega arith in
    subst (λ (p : ℕ). LineOf (a ++ (hex_line w ++ hex_lines ws)) p w) e (line-back a (hex_lines ws) w (f 0 (omega arith)))
lines-back a (w ∷ ws) f (suc j) h =
    let e : length (a ++ hex_line w) + 17 * j ≡ length a + 17 * suc j = omega (arith, length-append a (hex_line w), length-line w) in
    let s = lines-back (a ++ hex_line w) ws (λ k l. f (suc k) (omega arith)) j (omega arith) in
    subst (λ (t : List ℕ). LineOf t (length a + 17 * suc j) (get_or ws j 0)) (append_assoc a (hex_line w) (hex_lines ws))
    (subst (λ (p : ℕ). LineOf ((a ++ hex_line w) ++ hex_lines ws) p (get_or ws j 0)) e s)

-- ---- the first line

last-decimal : (n : ℕ) → is_decimal (last_digit n) ≡ true
unfolding is_decimal
last-decimal n = rw (le-leb 48 (last_digit n) (omega arith), le-leb (last_digit n) 57 (omega arith))

abbrev first_line : ℕ → List ℕ
first_line n = done_word ++ (decimal n ++ newline)

one-digit : (n : ℕ) (r : List ℕ) → n < 10 → lines_start (first_line n ++ r) ≡ length (first_line n)
unfolding lines_start starts_with
one-digit n r h = rw (decimal_digit n h, last-decimal n)

two_digits : (n : ℕ) (r : List ℕ) → 10 ≤ n → n < 100 → lines_start (first_line n ++ r) ≡ length (first_line n)
unfolding lines_start starts_with
two_digits n r l h =
    let d : decimal n ≡ last_digit (n / 10) ∷ last_digit n ∷ [] =
    decimal-more n l (omega arith) ∙ ap (λ (x : List ℕ). x ++ (last_digit n ∷ [])) (decimal_digit (n / 10) (omega arith)) in
    rw (d, last-decimal (n / 10), ne_eqb (last_digit n) 10 (λ e. omega (arith, e)), last-decimal n)

starts : (n : ℕ) (r : List ℕ) → n < 100 → lines_start (first_line n ++ r) ≡ length (first_line n)
starts n r h =
    decide (ltb n 10)
    (λ t. one-digit n r (ltb-true n 10 t))
    (λ t. two_digits n r (ltb-false n 10 t) h)

first_some : (n : ℕ) → 0 < length (first_line n)
first_some n = omega arith

-- ---- an answer

module _ (n w : ℕ) (xs : List Float) (few : n < 100) (small : w < 2 ^ 64) (good : good_word w ≡ true) (many : length xs ≡ stored (header_of w))
    (fit : (k : ℕ) → k < length xs → T (fits binary64 (get_or xs k nan))) where
  abbrev ws : List ℕ
  ws = w ∷ map (to_bits binary64) xs

  abbrev text : List ℕ
  text = first_line n ++ hex_lines ws

  pub text-is : done_text n w xs ≡ text
  unfolding done_text hex_lines
  text-is =
      ap (λ (l : List ℕ). done_word ++ l) (sym (append_assoc (decimal n) newline (hex_lines ws)))
      ∙ sym (append_assoc done_word (decimal n ++ newline) (hex_lines ws))

  words-many : length ws ≡ suc (length xs)
  words-many = ap suc (length-map xs (to_bits binary64))

  words_small : (k : ℕ) → k < length ws → get_or ws k 0 < 2 ^ 64
  words_small zero l = small
  words_small (suc k) l =
      let m : k < length xs = omega (arith, words-many, l) in
      rw (map_at (to_bits binary64) xs k m) (to_bits-lt binary64 (get_or xs k nan) (fit k m))

  here : (j : ℕ) → j < length ws → LineOf text (lines_start text + 17 * j) (get_or ws j 0)
  here j l = rw (starts n (hex_lines ws) few) (lines-back (first_line n) ws words_small j l)

  first : LineOf text (lines_start text) w
  first = let e : lines_start text + 17 * 0 ≡ lines_start text = omega arith in subst (λ (p : ℕ). LineOf text p w) e (here 0 (omega (arith, words-many)))

  count-is : value_count text ≡ length xs
  count-is = ap (λ (x : ℕ). stored (header_of x)) first.word ∙ sym many

  long : length text ≡ line_place text (1 + value_count text)
  long =
      omega (
        arith,
        length-append (first_line n) (hex_lines ws),
        length-lines ws,
        words-many,
        starts n (hex_lines ws) few,
        count-is,
      )

  pub done-answer : is_answer text ≡ true
  unfolding is_answer
  done-answer =
      rw (
        lt-ltb 0 (lines_start text) (omega (arith, starts n (hex_lines ws) few, first_some n)),
        first.line,
        first.word,
        good,
        eq-eqb (length text) (line_place text (1 + stored (header_of w))) (omega (arith, long, count-is, many)),
      )
      (all-every (line_here text) (stored (header_of w)) 1 (λ q l m. (here q (omega (arith, words-many, many, m))).line))

  pub done_word_lem : head_word text ≡ w
  done_word_lem = first.word

  pub done-values : answer_values text ≡ xs
  unfolding answer_values
  done-values =
      ap (λ (k : ℕ). table k (line_value text)) count-is
      ∙ (table_same (line_value text) (λ j. get_or xs j nan) (length xs)
      (λ j l. ap (of_bits binary64)
      ((here (1 + j) (omega (arith, words-many, l))).word ∙ (behind-at w (map (to_bits binary64) xs) j ∙ map_at (to_bits binary64) xs j l))
      ∙ of_bits-to_bits binary64 (get_or xs j nan) (fit j l))
      ∙ table-all nan xs)
