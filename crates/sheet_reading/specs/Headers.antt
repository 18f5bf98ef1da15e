-- The loop that reads the input headers, and what a sheet's headers keep where none is refused.
use Prim.Native.Nat.{ℕ, zero, suc, ◌+◌, ◌-◌, ◌*◌, ◌≤◌, ◌<◌}
use Rattle.std.specs.Prelude.{Bool, true, false, List, [], ◌∷◌, ◌≡◌, eqb, get_or, set}
use Rattle.std.proofs.Math.Path.{sym, ap}
use Rattle.std.proofs.Common.{◌∙◌, zero-add, lit≤, eqb-true}
use native.Mathlib.Omega.{arith}
use Rattle.std.proofs.Math.Numerals.{add-one}
use Rattle.std.proofs.Math.ListN.{length}
use Rattle.std.proofs.lemmas.List.{length-map}
use Rattle.std.proofs.lemmas.Bool.{eqb-false}
use Rattle.lists.specs.All.{All, all-below}
use Rattle.lists.specs.Table.{table, length-table, table_at, Filled, filled_none, filled_more}
use Rattle.lists.specs.Test.{decide}
use Rattle.lists.specs.Fill.{filled-all}
use Rattle.model.specs.declared.Header.{Header}
use Rattle.model.specs.declared.Refusal.{Refusal}
use Rattle.model.specs.Header.{no_header, span, stored}
use Rattle.model.specs.Word.{header_of, good_word}
use Rattle.model.specs.Refusals.{ask_for, refused_by, no_refusal}
use Rattle.model.specs.Gates.{bad_word}
use Rattle.model_recipes.specs.Recipe.{input_heads, total}
use Rattle.model_recipes.specs.Check.{ask_at}
use Rattle.model_texts.specs.Sheet.{lined, word_on, headers_refusal}
use Rattle.shape_words.specs.Rules.{Good, none-regular}
use Rattle.shape_words.specs.Words.{good_word_lem}
use Rattle.recipes_kinds.specs.Known.{Known, head_at_lem}
use Rattle.recipes_check.specs.Asks.{ask-none, ask_for-none}

-- header number i of a text
abbrev pub header_on : List ℕ → ℕ → ℕ
header_on t i = word_on t (1 + i)

-- n headers are read; new: the words noted
pub record HeadersRead (t : List ℕ) (n : ℕ) (new : List ℕ) (r : Refusal) : Type 0 where
  pub answer : r ≡ headers_refusal t n 0
  pub len : length new ≡ n
  pub words : r.number ≡ 0 → new ≡ table n (header_on t)

-- after i turns
pub record HeadersReading (t : List ℕ) (old new : List ℕ) (i : ℕ) : Type 0 where
  pub most : i ≤ length old
  pub filled : Filled i (header_on t) old new
  pub left : headers_refusal t (length old) 0 ≡ headers_refusal t (length old - i) i

pub headers-none : (t old : List ℕ) → HeadersReading t old old 0
headers-none t old = record { most = omega arith; filled = filled_none; left = let e : length old - 0 ≡ length old = omega arith in rw e }

module _ {t old new : List ℕ} {i : ℕ} (h : HeadersReading t old new i) where
  pub headers_len : length new ≡ length old
  headers_len = h.filled.len

  ahead : i < length old → headers_refusal t (length old) 0
      ≡ ask_at (lined t (1 + i)) 8 64 (ask_for (good_word (header_on t i)) (bad_word (header_on t i) i)
      (headers_refusal t (length old - (i + 1)) (i + 1)))
  unfolding headers_refusal
  ahead l =
      let e : length old - i ≡ suc (length old - (i + 1)) = omega arith in
      h.left ∙ rw (e, add-one i)

  refused : {r : Refusal} → (r.number ≡ 0 → ⊥) → r ≡ headers_refusal t (length old) 0 → HeadersRead t (length old) new r
  refused z e = record { answer = e; len = headers_len; words = λ y. absurd (z y) }

  module _ (l : i < length old) {g : Bool} (eg : g ≡ lined t (1 + i)) where
    pub headers_8 : g ≡ false → HeadersRead t (length old) new (refused_by 8)
    headers_8 f = refused (λ z. omega (arith, z)) (sym (ahead l ∙ rw (sym eg ∙ f)))

    module _ (f : g ≡ true) {w : ℕ} {b : Bool} (ew : w ≡ header_on t i) (eb : b ≡ good_word w) where
      good : good_word (header_on t i) ≡ b
      good = sym (eb ∙ ap good_word ew)

      pub headers_1 : b ≡ false → HeadersRead t (length old) new (bad_word w i)
      headers_1 k = refused (λ z. omega (arith, z)) (sym (ahead l ∙ rw (sym eg ∙ f, good ∙ k, ew)))

      pub headers-more : b ≡ true → HeadersReading t old (set new i w) (i + 1)
      headers-more k = record { most = omega arith; filled = filled_more h.filled ew l; left = ahead l ∙ rw (sym eg ∙ f, good ∙ k) }

  pub headers_end : length old ≤ i → HeadersRead t (length old) new no_refusal
  unfolding headers_refusal
  headers_end l =
      let e : length old - i ≡ 0 = omega arith in
      record {
        answer = sym (h.left ∙ ap (λ (n : ℕ). headers_refusal t n i) e);
        len = headers_len;
        words = λ _. filled-all h.filled h.most l;
      }

-- ---- what the headers keep

pub good-at : (t : List ℕ) (n i : ℕ) → (headers_refusal t n i).number ≡ 0 → (j : ℕ) → j < n → good_word (header_on t (i + j)) ≡ true
unfolding headers_refusal
good-at t zero i e j l = absurd (omega arith)
good-at t (suc n) i e j l =
    let next : Refusal = headers_refusal t n (suc i) in
    let bad : Refusal = bad_word (header_on t i) i in
    let a = ask-none (lined t (1 + i)) 64 (ask_for (good_word (header_on t i)) bad next) (λ z. omega (arith, z)) e in
    let b = ask_for-none (good_word (header_on t i)) bad next (λ z. omega (arith, z)) a.1 in
    decide (eqb j 0)
    (λ y. let q : i + j ≡ i = omega (arith, eqb-true j 0 y) in rw q b.0)
    (λ y.
    let q : i + j ≡ suc i + (j - 1) = omega (arith, eqb-false j 0 y) in
    rw q (good-at t n (suc i) b.1 (j - 1) (omega (arith, eqb-false j 0 y))))

none-good : Good no_header
unfolding span
none-good = record { regular = none-regular; most = lit≤ tt }

abbrev pub GoodHeads : List Header → Type 0
GoodHeads hs = All Good no_header hs

pub heads-good : (t : List ℕ) (n : ℕ) → (headers_refusal t n 0).number ≡ 0 → GoodHeads (input_heads (table n (header_on t)))
heads-good t n e =
    all-below Good no_header none-good (input_heads (table n (header_on t)))
    (λ p l.
    let m : p < n = omega (arith, l, length-map (table n (header_on t)) header_of, length-table (header_on t) n) in
    rw (head_at_lem (table n (header_on t)) p, table_at 0 (header_on t) n p m) (good_word_lem (header_on t p) (rw (zero-add p) at (good-at t n 0 e p m))))

pub good-known : {hs : List Header} → GoodHeads hs → Known hs
good-known g = record { at = λ p. (g.at p).regular }

pub total-most : (hs : List Header) → ((p : ℕ) → stored (get_or hs p no_header) ≤ 4096) → total hs ≤ 4096 * length hs
unfolding total
total-most [] g = omega arith
total-most (h ∷ hs) g = omega (arith, g 0, total-most hs (λ p. g (suc p)))
