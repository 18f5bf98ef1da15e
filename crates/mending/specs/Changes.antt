-- Printing the lines that change and the mended sheet; how long both are at most.
use Prim.Native.Nat.{ℕ, zero, suc, ◌+◌, ◌*◌, ◌^◌, ◌≤◌, ◌<◌, min}
use Rattle.std.specs.Prelude.{Bool, true, false, cond, List, [], ◌++◌, ◌≡◌, eqb, ltb, length}
use Rattle.std.proofs.Math.Path.{refl, sym, ap}
use Rattle.std.proofs.Common.{◌∙◌, add-one, zero-add, ltb-true, ltb-false, lt-ltb, le-ltb, eq-eqb, ne_eqb}
use native.Mathlib.Omega.{arith}
use Rattle.std.proofs.Math.ListN.{length-append}
use Rattle.lists.specs.Every.{every, Passing, passing-more, passing-stop}
use Rattle.lists.specs.Table.{table, length-table}
use Rattle.lists.specs.Test.{decide}
use Rattle.model_texts.specs.Hex.{byte_at, hex_digit, hex_line, word_at}
use Rattle.model_texts.specs.Printed.{space, decimal}
use Rattle.model_texts.specs.Report.{joined}
use Rattle.sheet_text.specs.Put.{Put, put-len, put-none, put_then}
use Rattle.sheet_text.specs.Decimal.{decimal-most}
use Rattle.sheet_text.specs.Texts.{length-line}
use Rattle.model_mending.specs.Lines.{low, end_at, line_at}
use Rattle.model_mending.specs.Words.{mended_word}
use Rattle.model_mending.specs.Mended.{new_word, is_kept, change_line, change_text, new_line}
use Rattle.mending.specs.Lines.{Going, going-none, going_more}

-- the line of a change: the line's number, the digits at `from`, the new word; and that only where the digits change
module _ (t : List ℕ) (line from w : ℕ) where
  abbrev pub stands : Bool
  stands = every (λ j. eqb (byte_at t (from + j)) (hex_digit w j)) 16 0

  unfoldable pub one_text : List ℕ
  one_text = decimal (line + 1) ++ (space ++ (table 16 (λ j. byte_at t (from + j)) ++ (space ++ hex_line w)))

  unfoldable pub may_text : List ℕ
  may_text = cond stands [] one_text

  pub may-not : {b : Bool} → b ≡ stands → b ≡ true → [] ≡ may_text
  unfolding may_text
  may-not e f = sym (rw (sym e ∙ f))

  pub may_do : {b : Bool} → b ≡ stands → b ≡ false → one_text ≡ may_text
  unfolding may_text
  may_do e f = sym (rw (sym e ∙ f))

  pub one-length : length one_text ≡ length (decimal (line + 1)) + 35
  unfolding one_text
  one-length = simp (length-append, length-table, length-line) (omega arith)

-- byte number k of the line of a word: its digits, then the newline
unfoldable pub line_byte : ℕ → ℕ → ℕ
line_byte w k = cond (ltb k 16) (hex_digit w k) 10

pub byte-digit : (w k : ℕ) → k < 16 → hex_digit w k ≡ line_byte w k
unfolding line_byte
byte-digit w k l = sym (rw (lt-ltb k 16 l))

pub byte_end : (w k : ℕ) → 16 ≤ k → 10 ≡ line_byte w k
unfolding line_byte
byte_end w k l = sym (rw (le-ltb k 16 l))

-- the loop that compares the digits at `from` with those of the word w
module _ (t : List ℕ) (from w : ℕ) {k : ℕ} (p : Passing (λ j. eqb (byte_at t (from + j)) (hex_digit w j)) 16 0 k) (l : k < 16) {b d : ℕ}
    (eb : b ≡ byte_at t (from + k)) (ed : d ≡ line_byte w k) where
  here : eqb (byte_at t (from + (0 + k))) (hex_digit w (0 + k)) ≡ eqb b d
  here = rw (zero-add k, eb, ed, ← byte-digit w k l)

  pub same_stop : (b ≡ d → ⊥) → false ≡ every (λ j. eqb (byte_at t (from + j)) (hex_digit w j)) 16 0
  same_stop n = sym (passing-stop p l (here ∙ ne_eqb b d n))

  pub same_more : b ≡ d → Passing (λ j. eqb (byte_at t (from + j)) (hex_digit w j)) 16 0 (k + 1)
  same_more e = passing-more p l (here ∙ eq-eqb b d e)

-- a line's number
pub four-digits : (n : ℕ) → n < 2113 → length (decimal (n + 1)) ≤ 4
four-digits n h = decimal-most 4 (n + 1) (omega arith) (omega arith) (omega arith)

pub digits-length : (t : List ℕ) (from : ℕ) → length (table 16 (λ j. byte_at t (from + j))) ≤ 16
digits-length t from = omega (arith, length-table (λ j. byte_at t (from + j)) 16)

-- room for n bytes is used, room for k more is left
pub room-left : (n k : ℕ) {at next : ℕ} {xs old new : List ℕ} → length xs ≤ n → Put at xs old new next → at + (n + k) ≤ length old
    → next + k ≤ length new
room-left n k h p l = omega (arith, put-len p, p.behind)

pub change-is : (t : List ℕ) (inputs count k : ℕ) → may_text t k (line_at t k) (new_word t inputs count k) ≡ change_text t inputs count k
unfolding may_text one_text change_text is_kept change_line
change-is t inputs count k = refl

-- ---- the loops: after k of n lines, the next one begins at `from`
pub record Printing (f : ℕ → List ℕ) (t : List ℕ) (n at : ℕ) (old new : List ℕ) (k from next : ℕ) : Type 0 where
  pub going : Going t n k from
  pub put : Put at (joined f k) old new next

pub printing-none : (f : ℕ → List ℕ) (t : List ℕ) (n at : ℕ) (old : List ℕ) → at ≤ length old → Printing f t n at old old 0 0 at
unfolding joined
printing-none f t n at old h = record { going = going-none t n; put = put-none at old h }

module _ {f : ℕ → List ℕ} {t : List ℕ} {n at : ℕ} {old new : List ℕ} {k from next : ℕ} (p : Printing f t n at old new k from next) where
  pub printing-more : {e end : ℕ} {new' xs : List ℕ} → k < n → e ≡ end_at t from → xs ≡ f k → Put next xs new new' end
      → Printing f t n at old new' (k + 1) (e + 1) end
  unfolding joined
  printing-more {e} {end} {new'} {xs} l ee ex q =
      record { going = going_more p.going l ee; put = rw (add-one k, ← ex) (put_then p.put q) }

  pub printing_end : n ≤ k → Put at (joined f n) old new next
  printing_end l = let e : k ≡ n = omega (arith, p.going.most) in rw e at p.put

-- the word of the line k
module _ (inputs count : ℕ) {t : List ℕ} {n k from r : ℕ} (g : Going t n k from) where
  pub word-is : {v : ℕ} → v ≡ word_at (low t) from → r ≡ mended_word inputs count k v → r ≡ new_word t inputs count k
  unfolding new_word
  word-is ev er = er ∙ ap (mended_word inputs count k) (ev ∙ ap (word_at (low t)) g.is)

  pub change-here : r ≡ new_word t inputs count k → may_text t k from r ≡ change_text t inputs count k
  change-here er = rw (g.is, er) (change-is t inputs count k)

-- ---- lengths

-- how many of the first k numbers are among the first c
unfoldable among : ℕ → ℕ → ℕ
among c k = min k c

module _ (c k : ℕ) where
  among-more : k < c → among c (suc k) ≡ among c k + 1
  unfolding among
  among-more h = omega arith

  among_same : c ≤ k → among c (suc k) ≡ among c k
  unfolding among
  among_same h = omega arith

  among-all : c ≤ k → among c k ≡ c
  unfolding among
  among-all h = omega arith

among_none : (c : ℕ) → among c 0 ≡ 0
unfolding among
among_none c = omega arith

-- of the numbers from 1 on nine have one digit, ninety-nine two at most, and 999 three
abbrev spared : ℕ → ℕ
spared k = among 9 k + (among 99 k + among 999 k)

module _ (t : List ℕ) (inputs count : ℕ) where
  change-most : (k d : ℕ) → length (decimal (k + 1)) ≤ d → length (change_text t inputs count k) ≤ d + 35
  unfolding may_text
  change-most k d h =
      rw (sym (change-is t inputs count k))
      (decide (stands t k (line_at t k) (new_word t inputs count k))
      (λ e. rw e (omega arith))
      (λ e. rw e (omega (arith, one-length t k (line_at t k) (new_word t inputs count k)))))

  digits-most : (k d : ℕ) → 1 ≤ d → d ≤ 4 → k + 1 < 10 ^ d → length (change_text t inputs count k) ≤ d + 35
  digits-most k d a b h = change-most k d (decimal-most d (k + 1) a h (omega arith))

  one_more : (k : ℕ) → k < 9999 → spared (suc k) + length (change_text t inputs count k) ≤ spared k + 39
  one_more k h =
      decide (ltb k 9)
      (λ a.
      let l = ltb-true k 9 a in
      let m : k < 99 = omega arith in
      let n : k < 999 = omega arith in
      omega (arith, among-more 9 k l, among-more 99 k m, among-more 999 k n, digits-most k 1 (omega arith) (omega arith) (omega arith)))
      (λ a.
      let l = ltb-false k 9 a in
      decide (ltb k 99)
      (λ b.
      let m = ltb-true k 99 b in
      let n : k < 999 = omega arith in
      omega (arith, among_same 9 k l, among-more 99 k m, among-more 999 k n, digits-most k 2 (omega arith) (omega arith) (omega arith)))
      (λ b.
      let m = ltb-false k 99 b in
      decide (ltb k 999)
      (λ c.
      let n = ltb-true k 999 c in
      omega (arith, among_same 9 k l, among_same 99 k m, among-more 999 k n, digits-most k 3 (omega arith) (omega arith) (omega arith)))
      (λ c.
      let n = ltb-false k 999 c in
      omega (arith, among_same 9 k l, among_same 99 k m, among_same 999 k n, digits-most k 4 (omega arith) (omega arith) (omega arith)))))

  changes-spared : (k : ℕ) → k ≤ 9999 → length (joined (change_text t inputs count) k) + spared k ≤ 39 * k
  unfolding joined
  changes-spared zero h = omega (arith, among_none 9, among_none 99, among_none 999)
  changes-spared (suc k) h =
      omega (
        arith,
        length-append (joined (change_text t inputs count) k) (change_text t inputs count k),
        changes-spared k (omega arith),
        one_more k (omega arith),
      )

  -- before the last line there is room for one more
  pub changes-room : (k : ℕ) → k < 2113 → length (joined (change_text t inputs count) k) + 39 ≤ 117221
  changes-room k h = omega (arith, changes-spared k (omega arith))

  -- 7,345 digits of 2,113 numbers, and 35 bytes a line
  pub changes-most : (k : ℕ) → k ≤ 2113 → length (joined (change_text t inputs count) k) ≤ 81300
  changes-most k h =
      decide (ltb k 999)
      (λ a. omega (arith, ltb-true k 999 a, changes-spared k (omega arith)))
      (λ a.
      let l = ltb-false k 999 a in
      omega (arith, changes-spared k (omega arith), among-all 9 k (omega arith), among-all 99 k (omega arith), among-all 999 k l))

  pub sheet-length : (k : ℕ) → length (joined (new_line t inputs count) k) ≡ 17 * k
  unfolding joined
  sheet-length zero = refl
  sheet-length (suc k) =
      omega (
        arith,
        length-append (joined (new_line t inputs count) k) (new_line t inputs count k),
        sheet-length k,
        length-line (new_word t inputs count k),
      )
