-- The loop that reads the mended input headers, and what they keep where all are right.
use Rattle.std.specs.Prelude.{ℕ, zero, suc, ◌+◌, ◌≤◌, ◌<◌, Bool, true, false, ◌&&◌, List, ◌≡◌, eqb, length, set}
use Rattle.std.proofs.Common.{sym, ap, ◌∙◌, arith, lit≤, eqb-true}
use Rattle.std.proofs.lemmas.List.{length-map}
use Rattle.std.proofs.lemmas.Bool.{eqb-false}
use Rattle.lists.specs.All.{all-below}
use Rattle.lists.specs.Every.{every, Passing, passing-none, passing-more, passing-stop, passing_end}
use Rattle.lists.specs.Fill.{filled-all}
use Rattle.lists.specs.Table.{table, length-table, table_at, Filled, filled_none, filled_more}
use Rattle.lists.specs.Test.{decide, and_left, and_right}
use Rattle.model.specs.Header.{no_header, span}
use Rattle.model.specs.Word.{header_of, good_word}
use Rattle.model_recipes.specs.Recipe.{input_heads}
use Rattle.shape_words.specs.Rules.{Good, none-regular}
use Rattle.shape_words.specs.Words.{good_word_lem}
use Rattle.recipes_kinds.specs.Known.{head_at_lem}
use Rattle.sheet_reading.specs.Headers.{GoodHeads}
use Rattle.model_mending.specs.Lines.{is_old_line, line_at, old_lined}
use Rattle.model_mending.specs.Words.{mended_header}
use Rattle.model_mending.specs.Mended.{header_in, header_right}
use Rattle.model_texts.specs.Hex.{word_at}
use Rattle.model_mending.specs.Lines.{low}

-- a test that every place of a range passes, at one place of it
pub every-at : (f : ℕ → Bool) (n p : ℕ) → every f n p ≡ true → (q : ℕ) → p ≤ q → q < p + n → f q ≡ true
unfolding every
every-at f zero p e q a b = absurd (omega arith)
every-at f (suc n) p e q a b =
    decide (eqb q p)
    (λ y. let d = eqb-true q p y in rw d (and_left (f p) _ e))
    (λ y. let d = eqb-false q p y in every-at f n (suc p) (and_right (f p) _ e) q (omega (arith, d)) (omega arith))

-- n headers are read; new: the words noted
pub record HeadersRead (t : List ℕ) (n : ℕ) (new : List ℕ) (r : Bool) : Type 0 where
  pub answer : r ≡ every (header_right t) n 1
  pub len : length new ≡ n
  pub words : r ≡ true → new ≡ table n (λ i. header_in t (1 + i))

-- after i turns
pub record HeadersReading (t : List ℕ) (old new : List ℕ) (i : ℕ) : Type 0 where
  pub passing : Passing (header_right t) (length old) 1 i
  pub filled : Filled i (λ j. header_in t (1 + j)) old new

pub headers-none : (t old : List ℕ) → HeadersReading t old old 0
headers-none t old = record { passing = passing-none _ _ _; filled = filled_none }

module _ {t old new : List ℕ} {i : ℕ} (h : HeadersReading t old new i) where
  pub headers_len : length new ≡ length old
  headers_len = h.filled.len

  module _ (l : i < length old) {at v w : ℕ} {g b : Bool} (ea : at ≡ line_at t (1 + i)) (ev : v ≡ word_at (low t) at) (ew : w ≡ mended_header v)
      (eg : g ≡ is_old_line t at) (eb : b ≡ good_word w) where
    word-is : w ≡ header_in t (1 + i)
    word-is = ew ∙ ap mended_header (ev ∙ ap (word_at (low t)) ea)

    right_is : header_right t (1 + i) ≡ (g && b)
    right_is = sym (rw (eg, eb, word-is, ea))

    pub headers-stop : (g && b) ≡ false → HeadersRead t (length old) new false
    headers-stop f =
        record { answer = sym (passing-stop h.passing l (right_is ∙ f)); len = headers_len; words = λ y. absurd (no y) }
      where
        no : false ≡ true → ⊥
        no y = let z : ◌≡◌ {A = ℕ} 0 1 = cc in omega (arith, z)

    pub headers-more : (g && b) ≡ true → HeadersReading t old (set new i w) (i + 1)
    headers-more f = record { passing = passing-more h.passing l (right_is ∙ f); filled = filled_more h.filled word-is l }

  pub headers_end : length old ≤ i → HeadersRead t (length old) new true
  headers_end l =
      record { answer = sym (passing_end h.passing l); len = headers_len; words = λ _. filled-all h.filled h.passing.most l }

-- ---- what the headers keep

none-good : Good no_header
unfolding span
none-good = record { regular = none-regular; most = lit≤ tt }

pub heads-good : (t : List ℕ) (n : ℕ) → every (header_right t) n 1 ≡ true → GoodHeads (input_heads (table n (λ i. header_in t (1 + i))))
heads-good t n e =
    let ws : List ℕ = table n (λ i. header_in t (1 + i)) in
    all-below Good no_header none-good (input_heads ws)
    (λ p l.
    let m : p < n = omega (arith, l, length-map ws header_of, length-table (λ i. header_in t (1 + i)) n) in
    rw (head_at_lem ws p, table_at 0 (λ i. header_in t (1 + i)) n p m)
    (good_word_lem (header_in t (1 + p)) (and_right (old_lined t (1 + p)) _ (every-at (header_right t) n 1 e (1 + p) (omega arith) (omega arith)))))
