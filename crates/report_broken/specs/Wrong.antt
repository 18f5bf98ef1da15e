-- What is said where a sheet is refused by 8: found line by line, it is what the definition says.
use Rattle.std.specs.Prelude.{ℕ, ◌+◌, ◌*◌, ◌≤◌, ◌<◌, List, ◌++◌, ◌≡◌}
use Rattle.std.proofs.Common.{arith}
use borrow.Author.Tests.{lt-ltb, le-ltb}
use Rattle.model_texts.specs.Hex.{digit_at}
use Rattle.model_texts.specs.Sheet.{lined, input_count, step_count, rest_count, read_refusal}
use Rattle.model_texts.specs.Report.{tell}
use Rattle.model_faults.specs.Saying.{say, first_not}
use Rattle.model_faults.specs.Broken.{head_lines, digits_on, line_fault, rest_fault, broken_text}
use Rattle.sheet_solving.specs.Opened.{Opened}
use Rattle.report_say.specs.First.{first_not_lem, none-fails}
use Rattle.report_broken.specs.Headers.{broken-opened}

pub digits-most : (t : List ℕ) (k : ℕ) → digits_on t k ≤ 16
unfolding digits_on
digits-most t k = omega (arith, (first_not_lem (λ j. digit_at t (17 * k + j)) 16 0).most)

-- i inputs, s steps, n lines behind the headers; k the line that was found
module _ (t : List ℕ) {i k : ℕ} (ei : i ≡ input_count t) where
  module _ {n : ℕ} (en : n ≡ rest_count t) (ek : k ≡ first_not (lined t) n (1 + i)) where
    pub rest-most : k ≤ 1 + i + n
    rest-most = omega (arith, (first_not_lem (lined t) n (1 + i)).most, ek)

    pub rest-is : k < 1 + i + n → line_fault t k (1 + i + n) ≡ rest_fault t
    unfolding rest_fault
    rest-is l = rw (← ei, ← en, ← ek, lt-ltb k (1 + i + n) l)

    pub rest-past : 1 + i + n ≤ k → (tell "line " (k + 1) ++ say ": the sheet goes on; " (1 + i + n) " lines are needed.\n") ≡ rest_fault t
    unfolding rest_fault
    rest-past l = rw (← ei, ← en, ← ek, le-ltb k (1 + i + n) l)

  module _ (ek : k ≡ first_not (lined t) (1 + i) 0) where
    pub broken-is : {s : ℕ} → s ≡ step_count t → k < 1 + i → line_fault t k (1 + i + i + s) ≡ broken_text t
    unfolding broken_text
    broken-is es l = rw (← ei, ← es, ← ek, lt-ltb k (1 + i) l)

    pub broken-past : 1 + i ≤ k → rest_fault t ≡ broken_text t
    unfolding broken_text
    broken-past l = rw (← ei, ← ek, le-ltb k (1 + i) l)

    pub broken_open : (read_refusal t).number ≡ 8 → 1 + i ≤ k → Opened t
    broken_open e l = broken-opened t e (none-fails (lined t) (head_lines t) 0 (rw (← ei, ← ek) (omega arith)))
