-- Document 02, W14: a sheet that passes reading, the check and the program's own limits goes through unchanged.
use Prim.Native.Nat.{ℕ, zero, suc, ◌+◌, ◌-◌, ◌*◌, ◌/◌, ◌%◌, ◌^◌, ◌≤◌, ◌<◌}
use Rattle.std.proofs.Math.Bool.{Bool}
use Rattle.std.specs.Prelude.{true, false, ◌&&◌, ◌≡◌, refl, eqb, length}
use mathlib.Core.List.{List, [], ◌∷◌, ◌++◌}
use Rattle.std.proofs.Math.Path.{sym, ap}
use Rattle.std.proofs.Common.{◌∙◌, zero-add}
use native.Mathlib.Omega.{arith}
use Rattle.std.proofs.Math.Dec.{leb}
use Rattle.std.proofs.Math.ListN.{get_or, get_or-eq_default}
use borrow.Author.Tests.{leb-true, leb-false, le-leb, eqb-true, eqb-false}
use Rattle.lists.specs.Chain.{chain}
use Rattle.lists.specs.Every.{every}
use Rattle.lists.specs.Table.{table, table_same, table_at, length-table}
use Rattle.lists.specs.Test.{decide, and_left, and_right}
use Rattle.model.specs.declared.Header.{Header}
use Rattle.model.specs.declared.Refusal.{Refusal}
use Rattle.model.specs.Word.{good_word}
use Rattle.model.specs.Refusals.{ask_for, no_refusal}
use Rattle.model.specs.Gates.{bad_word}
use Rattle.model_recipes.specs.declared.Step.{Step}
use Rattle.model_recipes.specs.declared.Uses.{Uses}
use Rattle.model_recipes.specs.Steps.{step_of, spare_of, uses_of}
use Rattle.model_recipes.specs.Recipe.{announced_step, input_heads, announced_places, announced_steps, total, largest}
use Rattle.model_recipes.specs.Check.{ask_at, known_edition, right_sizes, named_before, zero_unless, step_refusal, steps_refusal, check_refusal}
use Rattle.model_texts.specs.Hex.{byte_at, is_line, word_at}
use Rattle.model_texts.specs.Sheet.{own_refusal, lined, word_on, input_count, step_count, spare, sheet_headers, coefficient_count, sheet_steps, rest_count}
use Rattle.model_texts.specs.Sheet.{headers_refusal, read_refusal, sheet_edition, sheet_recipe}
use Rattle.recipes_check.specs.Asks.{or-none, ask-none, ask_for-none}
use Rattle.recipes_check.specs.Judged.{accepts}
use Rattle.recipes_laws.specs.Ahead.{clear}
use Rattle.recipes_laws.specs.Formed.{Tests, formed-tests}
use Rattle.sheet_reading.specs.Reading.{Sized, sized, sizes_test, rest_refusal}
use Rattle.model_mending.specs.Lines.{low, is_old_line, old_lined, old_word}
use Rattle.model_mending.specs.Words.{word_one_spare, header_spare, mended_header, if_used, used_fields, mended_step, mended_word}
use Rattle.model_mending.specs.Mended.{inputs_in, steps_in, header_in, headers_in, count_in, lines_in, header_right, is_readable, is_within}
use Rattle.model_mending.specs.Mended.{new_word, mended_text}
use Rattle.mending.specs.Headers.{every-at}
use Rattle.mending.specs.Words.{word-one, word-header, word-coefficient, word-step}
use Rattle.mending.specs.Reading.{first_test, headers_test, rest_test}
use Rattle.mending_laws.specs.Plain.{end_is, old-plain, word-plain, place-plain}
use Rattle.mending_laws.specs.Bits.{one_fixed, header_fixed, header-low, step_fixed}
use Rattle.mending_laws.specs.Unchanged.{every-all, unchanged}
use Rattle.mending_laws.specs.Twice.{word_small, fine-none}

-- ---- what reading has tested

pub record Passed (t : List ℕ) : Type 0 where
  pub sizes : Sized t
  pub headers : (headers_refusal t (input_count t) 0).number ≡ 0
  pub rest : every (lined t) (rest_count t) (1 + input_count t) ≡ true
  pub short : length t ≤ 17 * (1 + input_count t + rest_count t)

passed : (t : List ℕ) → (read_refusal t).number ≡ 0 → Passed t
unfolding read_refusal
passed t e =
    let last : Refusal = ask_at (leb (length t) (17 * (1 + input_count t + rest_count t))) 8 64 no_refusal in
    let rest : Refusal = rest_refusal t (rest_count t) (1 + input_count t) in
    let a = ask-none (lined t 0) 64 _ (λ z. omega (arith, z)) e in
    let b = ask-none (sizes_test t) 64 _ (λ z. omega (arith, z)) a.1 in
    let d = or-none (headers_refusal t (input_count t) 0) rest b.1 in
    let g = ask-none (every (lined t) (rest_count t) (1 + input_count t)) 64 last (λ z. omega (arith, z)) d.1 in
    let l = ask-none (leb (length t) (17 * (1 + input_count t + rest_count t))) 64 no_refusal (λ z. omega (arith, z)) g.1 in
    record { sizes = sized t a.0 b.0; headers = d.0; rest = g.0; short = leb-true _ _ l.0 }

-- header number i + j stands on a line and is right
headers-at : (t : List ℕ) (n i : ℕ) → (headers_refusal t n i).number ≡ 0 → (j : ℕ) → j < n
    → (lined t (1 + (i + j)) ≡ true) × (good_word (word_on t (1 + (i + j))) ≡ true)
unfolding headers_refusal
headers-at t zero i e j l = absurd (omega arith)
headers-at t (suc n) i e j l =
    let next : Refusal = headers_refusal t n (suc i) in
    let bad : Refusal = bad_word (word_on t (1 + i)) i in
    let a = ask-none (lined t (1 + i)) 64 (ask_for (good_word (word_on t (1 + i))) bad next) (λ z. omega (arith, z)) e in
    let b = ask_for-none (good_word (word_on t (1 + i))) bad next (λ z. omega (arith, z)) a.1 in
    decide (eqb j 0)
    (λ y. let q : i + j ≡ i = omega (arith, eqb-true j 0 y) in rw q (a.0, b.0))
    (λ y.
    let q : i + j ≡ suc i + (j - 1) = omega (arith, eqb-false j 0 y) in
    rw q (headers-at t n (suc i) b.1 (j - 1) (omega (arith, eqb-false j 0 y))))

byte_inside : (t : List ℕ) (p : ℕ) → byte_at t p ≡ 10 → p < length t
byte_inside t p e =
    decide (leb (length t) p)
    (λ a. absurd (omega (arith, e, get_or-eq_default t 0 (leb-true (length t) p a))))
    (λ a. leb-false (length t) p a)

-- ---- what the check has tested of a step

named_used : (p : ℕ) (used : Bool) (x : ℕ) → named_before p used x ≡ true → if_used used x ≡ x
named_used p true x e = refl
named_used p false x e = sym (eqb-true x 0 e)

zero_used : (used : Bool) (x : ℕ) → zero_unless used x ≡ true → if_used used x ≡ x
zero_used true x e = refl
zero_used false x e = sym (eqb-true x 0 e)

tested_fixed : {w p : ℕ} → w < 2 ^ 64 → Tests w p → mended_step w ≡ w
tested_fixed {w} {p} h e =
    let s : Step = step_of w in
    let u : Uses = uses_of s.kind in
    let a : if_used u.a s.a ≡ s.a = named_used p u.a s.a e.a in
    let b : if_used u.b s.b ≡ s.b = named_used p u.b s.b e.b in
    let v : if_used u.variable s.variable ≡ s.variable = zero_used u.variable s.variable e.variable in
    let n : if_used u.n s.n ≡ s.n = zero_used u.n s.n e.n in
    let k : used_fields u s ≡ s = λ i. record { kind = s.kind; a = a i; b = b i; variable = v i; n = n i } in
    step_fixed w h e.kind k (eqb-true (spare_of w) 0 e.spare)

steps_fixed : (v : ℕ) (known : List Header) (ss : List ℕ) → (steps_refusal v known ss).number ≡ 0 → (j : ℕ) → j < length ss → get_or ss j 0 < 2 ^ 64
    → mended_step (get_or ss j 0) ≡ get_or ss j 0
unfolding steps_refusal
steps_fixed v known [] e j l h = absurd (omega arith)
steps_fixed v known (w ∷ ss) e zero l h =
    let a = or-none (step_refusal v w known) _ e in
    tested_fixed h (formed-tests w (length known) (clear v w known a.0).formed)
steps_fixed v known (w ∷ ss) e (suc j) l h =
    let a = or-none (step_refusal v w known) (steps_refusal v (known ++ (announced_step v w known ∷ [])) ss) e in
    steps_fixed v (known ++ (announced_step v w known ∷ [])) ss a.1 j (omega arith) h

-- ---- the inputs are among the places

largest-front : (xs ys : List Header) → largest xs ≤ largest (xs ++ ys)
unfolding largest
largest-front [] ys = omega arith
largest-front (x ∷ xs) ys = let e = largest-front xs ys in omega arith

chain-largest : (v : ℕ) (xs : List Header) (ws : List ℕ) → largest xs ≤ largest (chain (announced_step v) xs ws)
unfolding chain
chain-largest v xs [] = omega arith
chain-largest v xs (w ∷ ws) =
    omega (arith, largest-front xs (announced_step v w xs ∷ []), chain-largest v (xs ++ (announced_step v w xs ∷ [])) ws)

-- ---- a sheet that passes
module _ (t : List ℕ) (g : Passed t) where
  abbrev lines : ℕ
  lines = 1 + input_count t + rest_count t

  line : (k : ℕ) → k < lines → is_line t (17 * k) ≡ true
  line k l =
      decide (eqb k 0)
      (λ a. let e = eqb-true k 0 a in rw e g.sizes.line)
      (λ a.
      let z = eqb-false k 0 a in
      decide (leb k (input_count t))
      (λ b.
      let m = leb-true k (input_count t) b in
      let e : 1 + (0 + (k - 1)) ≡ k = omega (arith, z) in
      rw e at (headers-at t (input_count t) 0 g.headers (k - 1) (omega (arith, z))).0)
      (λ b.
      let m = leb-false k (input_count t) b in
      every-at (lined t) (rest_count t) (1 + input_count t) g.rest k (omega arith) (omega arith)))

  long : length t ≡ 17 * lines
  long =
      let k : ℕ = input_count t + rest_count t in
      let e : 1 + k ≡ lines = omega arith in
      omega (arith, g.short, byte_inside t (17 * k + 16) (end_is t (17 * k) (line k (omega arith))))

  words : (k : ℕ) → k < lines → old_word t k ≡ word_on t k
  words k l = ap (word_at (low t)) (place-plain t lines line k (omega arith)) ∙ word-plain t (17 * k) (line k l)

  old_lined_lem : (k : ℕ) → k < lines → old_lined t k ≡ true
  old_lined_lem k l = ap (is_old_line t) (place-plain t lines line k (omega arith)) ∙ old-plain t (17 * k) (line k l)

  inputs_are : inputs_in t ≡ input_count t
  unfolding inputs_in input_count
  inputs_are = ap (λ (w : ℕ). w / 2 ^ 56 % 2 ^ 8) (words 0 (omega arith))

  steps_are : steps_in t ≡ step_count t
  unfolding steps_in step_count
  steps_are = ap (λ (w : ℕ). w / 2 ^ 48 % 2 ^ 8) (words 0 (omega arith))

  good : (i : ℕ) → i < input_count t → good_word (word_on t (1 + i)) ≡ true
  good i l = rw (zero-add i) at (headers-at t (input_count t) 0 g.headers i l).1

  header_is : (i : ℕ) → i < input_count t → header_in t (1 + i) ≡ word_on t (1 + i)
  header_is i l =
      let w : ℕ = word_on t (1 + i) in
      let z : w % 2 ^ header_spare ≡ 0 = header-low w (good i l) in
      ap mended_header (words (1 + i) (omega arith)) ∙ header_fixed w z

  headers_are : headers_in t ≡ sheet_headers t
  unfolding headers_in sheet_headers
  headers_are =
      ap (λ (n : ℕ). table n (λ i. header_in t (1 + i))) inputs_are
      ∙ table_same (λ i. header_in t (1 + i)) (λ i. word_on t (1 + i)) (input_count t) header_is

  count-is : count_in t ≡ coefficient_count t
  unfolding count_in coefficient_count
  count-is = ap (λ (hs : List ℕ). total (input_heads hs)) headers_are

  lines_are : lines_in t ≡ lines
  unfolding lines_in
  lines_are = rw (inputs_are, count-is, steps_are)

  sizes_test_lem : (right_sizes (input_count t) (step_count t) && eqb (spare t) 0) ≡ true
  sizes_test_lem = and_right (known_edition (sheet_edition t)) _ g.sizes.test

  first_test_lem : first_test t ≡ true
  first_test_lem =
      rw (old_lined_lem 0 (omega arith), inputs_are, steps_are) (and_left (right_sizes (input_count t) (step_count t)) (eqb (spare t) 0) sizes_test_lem)

  headers_test_lem : headers_test t ≡ true
  headers_test_lem =
      rw inputs_are
      (every-all (header_right t) (input_count t) 1
      (λ q a b.
      let e : q ≡ 1 + (q - 1) = omega arith in
      let s : good_word (header_in t q) ≡ true =
      ap (λ (k : ℕ). good_word (header_in t k)) e ∙ (ap good_word (header_is (q - 1) (omega arith)) ∙ good (q - 1) (omega arith)) in
      rw (old_lined_lem q (omega arith), s)))

  rest_test_lem : rest_test t ≡ true
  rest_test_lem =
      rw (count-is, steps_are, inputs_are)
      (every-all (old_lined t) (rest_count t) (1 + input_count t) (λ q a b. old_lined_lem q (omega arith)))

  readable : is_readable t ≡ true
  unfolding is_readable
  readable = rw (first_test_lem, headers_test_lem, rest_test_lem)

  within : (own_refusal (sheet_recipe t)).number ≡ 0 → is_within t ≡ true
  unfolding own_refusal is_within announced_places coefficient_count sheet_recipe
  within e =
      let hs = sheet_headers t in
      let it = sheet_recipe t in
      let a : Bool = leb (largest (announced_places it)) 256 in
      let b : Bool = leb (total (input_heads hs)) 2048 in
      let d = (ask-none ((a && b) && leb (total (announced_steps it)) 2048) 64 no_refusal (λ z. omega (arith, z)) e).0 in
      let f = and_left (a && b) (leb (total (announced_steps it)) 2048) d in
      let m = leb-true (largest (announced_places it)) 256 (and_left a b f) in
      let l : largest (input_heads hs) ≤ 256 = omega (arith, m, chain-largest it.edition (input_heads hs) (sheet_steps t)) in
      rw (headers_are, count-is, le-leb (largest (input_heads hs)) 256 l) (and_right a b f)

  -- every word is mended already
  module _ (c : (check_refusal (sheet_recipe t)).number ≡ 0) where
    step_is : (j : ℕ) → j < step_count t
        → mended_step (word_on t (1 + input_count t + coefficient_count t + j)) ≡ word_on t (1 + input_count t + coefficient_count t + j)
    unfolding sheet_steps sheet_recipe
    step_is j l =
        let f : ℕ → ℕ = λ i. word_on t (1 + input_count t + coefficient_count t + i) in
        let e : get_or (table (step_count t) f) j 0 ≡ f j = table_at 0 f (step_count t) j l in
        let s = (accepts (sheet_recipe t) c).steps in
        rw e at (steps_fixed (sheet_edition t) (input_heads (sheet_headers t)) (table (step_count t) f) s j (omega (arith, length-table f (step_count t)))
        (rw e (word_small t (17 * (1 + input_count t + coefficient_count t + j)))))

    by-line : (k : ℕ) → k < lines → mended_word (input_count t) (coefficient_count t) k (word_on t k) ≡ word_on t k
    unfolding spare
    by-line k l =
        let w : ℕ = word_on t k in
        decide (eqb k 0)
        (λ a.
        let e = eqb-true k 0 a in
        let z : word_on t 0 % 2 ^ word_one_spare ≡ 0 = eqb-true _ _ (and_right (right_sizes (input_count t) (step_count t)) _ sizes_test_lem) in
        sym (word-one (input_count t) (coefficient_count t) k w e) ∙ one_fixed w (ap (λ (i : ℕ). word_on t i % 2 ^ word_one_spare) e ∙ z))
        (λ a.
        let z = eqb-false k 0 a in
        decide (leb k (input_count t))
        (λ b.
        let m = leb-true k (input_count t) b in
        let i : ℕ = k - 1 in
        let e : k ≡ 1 + i = omega (arith, z) in
        let s : w % 2 ^ header_spare ≡ 0 =
        ap (λ (x : ℕ). word_on t x % 2 ^ header_spare) e ∙ header-low (word_on t (1 + i)) (good i (omega arith)) in
        sym (word-header (input_count t) (coefficient_count t) k w z m) ∙ header_fixed w s)
        (λ b.
        let m = leb-false k (input_count t) b in
        decide (leb k (input_count t + coefficient_count t))
        (λ d. sym (word-coefficient (input_count t) (coefficient_count t) k w z m (leb-true k (input_count t + coefficient_count t) d)))
        (λ d.
        let n = leb-false k (input_count t + coefficient_count t) d in
        let j : ℕ = k - (1 + input_count t + coefficient_count t) in
        let e : k ≡ 1 + input_count t + coefficient_count t + j = omega arith in
        sym (word-step (input_count t) (coefficient_count t) k w z m n)
        ∙ (ap (λ (x : ℕ). mended_step (word_on t x)) e ∙ (step_is j (omega arith) ∙ ap (word_on t) (sym e))))))

    fixed : (k : ℕ) → k < lines → new_word t (inputs_in t) (count_in t) k ≡ word_at t (17 * k)
    unfolding new_word
    fixed k l = rw (inputs_are, count-is, words k l) (by-line k l)

    pub goes_through : (own_refusal (sheet_recipe t)).number ≡ 0 → mended_text t ≡ t
    goes_through e =
        unchanged t (λ k l. line k (omega (arith, lines_are))) (omega (arith, long, lines_are)) (λ k l. fixed k (omega (arith, lines_are)))
        (fine-none t (record { readable = readable; within = within e }))

pub passing_unchanged : (t : List ℕ) → (read_refusal t).number ≡ 0 → (check_refusal (sheet_recipe t)).number ≡ 0
    → (own_refusal (sheet_recipe t)).number ≡ 0 → mended_text t ≡ t
passing_unchanged t r c o = goes_through t (passed t r) c o
