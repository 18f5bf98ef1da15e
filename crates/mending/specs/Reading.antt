-- Reading an old sheet as far as its last step: what each test leads to, and what is known where all lines are right.
use Rattle.std.specs.Prelude.{ℕ, ◌+◌, ◌*◌, ◌≤◌, ◌<◌, Bool, true, false, ◌&&◌, ◌≡◌, refl, leb, length, take, drop}
use mathlib.Core.List.{List, ◌++◌}
use Rattle.std.proofs.Math.Path.{sym, ap}
use Rattle.std.proofs.Common.{◌∙◌, arith, length-append, length-drop, length-take-le, leb-true}
use Rattle.std.proofs.Math.ListN.{length-map}
use Rattle.std.proofs.Math.Seq.{take_at}
use Rattle.lists.specs.Every.{every}
use Rattle.lists.specs.Table.{table, length-table}
use Rattle.lists.specs.Test.{and_left, and_right}
use Rattle.model.specs.Word.{header_of}
use Rattle.model_recipes.specs.Recipe.{input_heads, total}
use Rattle.model_recipes.specs.Check.{right_sizes}
use Rattle.sheet_reading.specs.Headers.{GoodHeads, total-most}
use Rattle.model_mending.specs.Lines.{is_old_line, line_at, old_lined}
use Rattle.model_mending.specs.Mended.{inputs_in, steps_in, header_in, headers_in, count_in, header_right, is_readable}
use Rattle.mending.specs.Headers.{HeadersRead, heads-good}

-- old, new: the buffer of headers before and after
pub record Readable (t old new : List ℕ) (r : Bool) : Type 0 where
  pub answer : r ≡ is_readable t
  pub len : length new ≡ length old
  pub headers : r ≡ true → take (inputs_in t) new ≡ headers_in t

-- word one's fields have eight bits
pub inputs-small : (t : List ℕ) → inputs_in t < 256
unfolding inputs_in
inputs-small t = omega arith

pub steps-small : (t : List ℕ) → steps_in t < 256
unfolding steps_in
steps-small t = omega arith

-- the tests of word one, of the headers, of the lines behind them
abbrev pub first_test : List ℕ → Bool
first_test t = old_lined t 0 && right_sizes (inputs_in t) (steps_in t)

abbrev pub headers_test : List ℕ → Bool
headers_test t = every (header_right t) (inputs_in t) 1

abbrev pub rest_test : List ℕ → Bool
rest_test t = every (old_lined t) (count_in t + steps_in t) (1 + inputs_in t)

pub first-is : (t : List ℕ) {g b : Bool} → g ≡ is_old_line t 0 → b ≡ right_sizes (inputs_in t) (steps_in t) → (g && b) ≡ first_test t
unfolding line_at
first-is t eg eb = rw (eg, eb)

-- word one is read, and right
pub record Sized (t : List ℕ) : Type 0 where
  pub test : first_test t ≡ true
  pub few : inputs_in t ≤ 16
  pub some : 1 ≤ steps_in t
  pub fit : inputs_in t + steps_in t ≤ 64

pub sized : (t : List ℕ) → first_test t ≡ true → Sized t
unfolding right_sizes
sized t e =
    let k = inputs_in t in
    let n = steps_in t in
    let a = and_right (old_lined t 0) ((leb k 16 && leb 1 n) && leb (k + n) 64) e in
    let b = and_left (leb k 16 && leb 1 n) (leb (k + n) 64) a in
    record {
      test = e;
      few = leb-true _ _ (and_left (leb k 16) (leb 1 n) b);
      some = leb-true _ _ (and_right (leb k 16) (leb 1 n) b);
      fit = leb-true _ _ (and_right (leb k 16 && leb 1 n) (leb (k + n) 64) a);
    }

pub no_true : {P : Type 0} → false ≡ true → P
no_true y = let z : ◌≡◌ {A = ℕ} 0 1 = cc in absurd (omega (arith, z))

pub first-wrong : (t old : List ℕ) → first_test t ≡ false → Readable t old old false
unfolding is_readable
first-wrong t old e = record { answer = sym (rw e); len = refl; headers = no_true }

-- n inputs; the headers were read into the first n places of old, which hold `part` now
abbrev mid : ℕ → List ℕ → List ℕ → List ℕ
mid n part old = part ++ drop n old

module _ (t old : List ℕ) {n : ℕ} (s : Sized t) (e : n ≡ inputs_in t) (m : 16 ≤ length old) where
  pub few-places : n ≤ length old
  few-places = omega (arith, s.few)

  pub few-taken : length (take n old) ≡ n
  few-taken = length-take-le n old few-places

  module _ {part : List ℕ} {r : Bool} (h : HeadersRead t (length (take n old)) part r) where
    part-len : length part ≡ n
    part-len = h.len ∙ few-taken

    answer-is : r ≡ headers_test t
    answer-is = h.answer ∙ ap (λ (k : ℕ). every (header_right t) k 1) (few-taken ∙ e)

    pub mid_len : length (mid n part old) ≡ length old
    mid_len = omega (arith, length-append part (drop n old), length-drop n old, part-len, few-places)

    pub header-wrong : r ≡ false → Readable t old (mid n part old) false
    unfolding is_readable
    header-wrong z = record { answer = sym (rw (s.test, sym answer-is ∙ z)); len = mid_len; headers = no_true }

    module _ (z : r ≡ true) where
      test : headers_test t ≡ true
      test = sym answer-is ∙ z

      pub mid-headers : take n (mid n part old) ≡ headers_in t
      unfolding headers_in
      mid-headers = take_at part (drop n old) n part-len ∙ (h.words z ∙ ap (λ (k : ℕ). table k (λ i. header_in t (1 + i))) (few-taken ∙ e))

      pub mid-good : GoodHeads (input_heads (take n (mid n part old)))
      unfolding headers_in
      mid-good = rw mid-headers (heads-good t (inputs_in t) test)

      pub mid-taken : n ≡ length (take n (mid n part old))
      mid-taken = sym (length-take-le n (mid n part old) (omega (arith, mid_len, few-places)))

      pub mid-total : total (input_heads (take n (mid n part old))) ≤ 65536
      mid-total =
          omega (
            arith,
            total-most (input_heads (take n (mid n part old))) (λ p. (mid-good.at p).most),
            length-map (take n (mid n part old)) header_of,
            mid-taken,
            s.few,
          )

      pub rest_read : {x y : ℕ} {q : Bool} → x ≡ total (input_heads (take n (mid n part old))) → y ≡ steps_in t
          → q ≡ every (old_lined t) (x + y) (1 + n) → Readable t old (mid n part old) q
      unfolding count_in is_readable
      rest_read {x} {y} {q} ex ey f =
          let c : x ≡ count_in t = ex ∙ ap (λ (hs : List ℕ). total (input_heads hs)) mid-headers in
          let g : q ≡ rest_test t = f ∙ rw (c, ey, e) in
          let a : rest_test t ≡ is_readable t = sym (rw (s.test, test)) in
          record {
            answer = g ∙ a;
            len = mid_len;
            headers = λ _. rw (← e) mid-headers;
          }

-- ---- where all lines are right
pub record Opened (t : List ℕ) : Type 0 where
  pub sizes : Sized t
  pub headers : headers_test t ≡ true
  pub rest : rest_test t ≡ true

pub opened : (t : List ℕ) → is_readable t ≡ true → Opened t
unfolding is_readable
opened t e =
    let a = and_left (first_test t) (headers_test t && rest_test t) e in
    let b = and_right (first_test t) (headers_test t && rest_test t) e in
    record { sizes = sized t a; headers = and_left (headers_test t) (rest_test t) b; rest = and_right (headers_test t) (rest_test t) b }

module _ {t : List ℕ} (o : Opened t) where
  pub opened-good : GoodHeads (input_heads (headers_in t))
  unfolding headers_in
  opened-good = heads-good t (inputs_in t) o.headers

  pub headers-many : length (headers_in t) ≡ inputs_in t
  unfolding headers_in
  headers-many = length-table (λ i. header_in t (1 + i)) (inputs_in t)

  -- 16 inputs of 4,096 coefficients
  pub opened-few : count_in t ≤ 4096 * inputs_in t
  unfolding count_in
  opened-few =
      let hs = input_heads (headers_in t) in
      omega (arith, total-most hs (λ p. (opened-good.at p).most), length-map (headers_in t) header_of, headers-many)
