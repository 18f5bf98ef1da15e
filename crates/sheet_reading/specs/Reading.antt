-- Reading a sheet in order: which refusal each test leads to, and what is known where there is none.
use Rattle.std.specs.Prelude.{ℕ, ◌+◌, ◌*◌, ◌≤◌, ◌<◌, Bool, true, false, ◌&&◌, ◌≡◌, leb, eqb, length, take, drop}
use mathlib.Core.List.{List, ◌++◌}
use Rattle.std.proofs.Math.Path.{refl, sym, ap}
use Rattle.std.proofs.Common.{◌∙◌, arith, length-append, length-drop, length-take-le, leb-true, le-leb}
use Rattle.std.proofs.lemmas.List.{length-map}
use Rattle.std.proofs.Math.Seq.{take_at}
use Rattle.std.proofs.lemmas.Bool.{lt-leb}
use Rattle.lists.specs.Every.{every}
use Rattle.lists.specs.Table.{table}
use Rattle.lists.specs.Test.{and_left, and_right}
use Rattle.model.specs.declared.Refusal.{Refusal}
use Rattle.model.specs.Word.{header_of}
use Rattle.model.specs.Refusals.{refused_by, no_refusal}
use Rattle.model_recipes.specs.Recipe.{input_heads, total}
use Rattle.model_recipes.specs.Check.{ask_at, or_else, known_edition, right_sizes}
use Rattle.model_texts.specs.Sheet.{lined, input_count, step_count, sheet_edition, spare, sheet_headers}
use Rattle.model_texts.specs.Sheet.{coefficient_count, rest_count, headers_refusal, read_refusal}
use Rattle.recipes_check.specs.Asks.{or-first, or-next}
use Rattle.sheet_reading.specs.Headers.{HeadersRead, header_on, GoodHeads, heads-good, total-most}

-- old, new: the buffer of headers before and after
pub record Read (t old new : List ℕ) (r : Refusal) : Type 0 where
  pub answer : r ≡ read_refusal t
  pub len : length new ≡ length old
  pub headers : r.number ≡ 0 → take (input_count t) new ≡ sheet_headers t

-- word one's fields have eight bits
pub count_small : (t : List ℕ) → input_count t < 256
unfolding input_count
count_small t = omega arith

pub step_small : (t : List ℕ) → step_count t < 256
unfolding step_count
step_small t = omega arith

pub edition-small : (t : List ℕ) → sheet_edition t < 16
unfolding sheet_edition
edition-small t = omega arith

-- the test of word one
abbrev pub sizes_test : List ℕ → Bool
sizes_test t = known_edition (sheet_edition t) && (right_sizes (input_count t) (step_count t) && eqb (spare t) 0)

-- word one is read, and right
pub record Sized (t : List ℕ) : Type 0 where
  pub line : lined t 0 ≡ true
  pub test : sizes_test t ≡ true
  pub edition : sheet_edition t ≤ 1
  pub few : input_count t ≤ 16
  pub some : 1 ≤ step_count t
  pub fit : input_count t + step_count t ≤ 64

pub sized : (t : List ℕ) → lined t 0 ≡ true → sizes_test t ≡ true → Sized t
unfolding right_sizes
sized t l e =
    let k = input_count t in
    let n = step_count t in
    let d = leb (sheet_edition t) 1 in
    let s = right_sizes k n && eqb (spare t) 0 in
    let a = and_left (right_sizes k n) (eqb (spare t) 0) (and_right d s e) in
    let b = and_left (leb k 16 && leb 1 n) (leb (k + n) 64) a in
    record {
      line = l;
      test = e;
      edition = leb-true _ _ (and_left d s e);
      few = leb-true _ _ (and_left (leb k 16) (leb 1 n) b);
      some = leb-true _ _ (and_right (leb k 16) (leb 1 n) b);
      fit = leb-true _ _ (and_right (leb k 16 && leb 1 n) (leb (k + n) 64) a);
    }

-- after the headers: n lines more, from the line `from` on, and no byte behind them
abbrev pub rest_refusal : List ℕ → ℕ → ℕ → Refusal
rest_refusal t n from = ask_at (every (lined t) n from) 8 64 (ask_at (leb (length t) (17 * (from + n))) 8 64 no_refusal)

module _ (t : List ℕ) (n from : ℕ) where
  pub rest-line : every (lined t) n from ≡ false → refused_by 8 ≡ rest_refusal t n from
  rest-line e = rw e

  module _ (e : every (lined t) n from ≡ true) where
    pub rest_byte : 17 * (from + n) < length t → refused_by 8 ≡ rest_refusal t n from
    rest_byte l = rw (e, lt-leb (length t) (17 * (from + n)) l)

    pub rest-none : length t ≤ 17 * (from + n) → no_refusal ≡ rest_refusal t n from
    rest-none l = rw (e, le-leb (length t) (17 * (from + n)) l)

module _ (t old : List ℕ) where
  pub read_8 : lined t 0 ≡ false → Read t old old (refused_by 8)
  unfolding read_refusal
  read_8 e = record { answer = rw e; len = refl; headers = λ z. absurd (omega (arith, z)) }

  pub read_7 : lined t 0 ≡ true → sizes_test t ≡ false → Read t old old (refused_by 7)
  unfolding read_refusal
  read_7 l e = record { answer = rw (l, e); len = refl; headers = λ z. absurd (omega (arith, z)) }

pub after-sizes : (t : List ℕ) → Sized t → read_refusal t ≡ or_else (headers_refusal t (input_count t) 0) (rest_refusal t (rest_count t) (1 + input_count t))
unfolding read_refusal
after-sizes t s = rw (s.line, s.test)

-- n inputs; the headers were read into the first n places of old, which hold `part` now
abbrev mid : ℕ → List ℕ → List ℕ → List ℕ
mid n part old = part ++ drop n old

module _ (t old : List ℕ) {n : ℕ} (s : Sized t) (e : n ≡ input_count t) (m : 16 ≤ length old) where
  pub few-places : n ≤ length old
  few-places = omega (arith, s.few)

  pub few-taken : length (take n old) ≡ n
  few-taken = length-take-le n old few-places

  module _ {part : List ℕ} {r : Refusal} (h : HeadersRead t (length (take n old)) part r) where
    part-len : length part ≡ n
    part-len = h.len ∙ few-taken

    answer-is : r ≡ headers_refusal t (input_count t) 0
    answer-is = h.answer ∙ ap (λ (k : ℕ). headers_refusal t k 0) (few-taken ∙ e)

    pub mid_len : length (mid n part old) ≡ length old
    mid_len = omega (arith, length-append part (drop n old), length-drop n old, part-len, few-places)

    pub read_1 : (r.number ≡ 0 → ⊥) → Read t old (mid n part old) r
    read_1 z =
        record {
          answer =
              sym (after-sizes t s ∙ (ap (λ (x : Refusal). or_else x (rest_refusal t (rest_count t) (1 + input_count t))) (sym answer-is) ∙ or-first _ z));
          len = mid_len;
          headers = λ y. absurd (z y);
        }

    module _ (z : r.number ≡ 0) where
      none : (headers_refusal t (input_count t) 0).number ≡ 0
      none = ap (λ (x : Refusal). x.number) (sym answer-is) ∙ z

      pub mid-headers : take n (mid n part old) ≡ sheet_headers t
      unfolding sheet_headers
      mid-headers = take_at part (drop n old) n part-len ∙ (h.words z ∙ ap (λ (k : ℕ). table k (header_on t)) (few-taken ∙ e))

      pub mid-good : GoodHeads (input_heads (take n (mid n part old)))
      unfolding sheet_headers
      mid-good = rw mid-headers (heads-good t (input_count t) none)

      pub mid-taken : n ≡ length (take n (mid n part old))
      mid-taken = sym (length-take-le n (mid n part old) (omega (arith, mid_len, few-places)))

      pub mid-total : total (input_heads (take n (mid n part old))) ≤ 65536
      mid-total =
          omega (
            arith,
            total-most (input_heads (take n (mid n part old))) (λ p. (mid-good.at p).most),
            length-map (take n (mid n part old)) header_of,
            mid-taken,
            s.few,
          )

      pub read-rest : {x y : ℕ} {q : Refusal} → x ≡ total (input_heads (take n (mid n part old))) → y ≡ step_count t
          → q ≡ rest_refusal t (x + y) (1 + n) → Read t old (mid n part old) q
      unfolding coefficient_count
      read-rest {x} {y} {q} ex ey f =
          let c : x ≡ coefficient_count t = ex ∙ ap (λ (hs : List ℕ). total (input_heads hs)) mid-headers in
          record {
            answer = f ∙ (rw (c, ey, e) refl ∙ sym (after-sizes t s ∙ or-next _ _ none));
            len = mid_len;
            headers = λ _. rw (← e) mid-headers;
          }
