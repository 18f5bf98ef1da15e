-- What is known of a text that is read to its end without a refusal.
use Rattle.std.specs.Prelude.{ℕ, ◌+◌, ◌*◌, ◌≤◌, List, ◌≡◌, length}
use Rattle.std.proofs.Common.{arith}
use Rattle.std.proofs.Math.ListN.{length-map}
use Rattle.lists.specs.Table.{length-table}
use Rattle.model.specs.declared.Refusal.{Refusal}
use Rattle.model.specs.Word.{header_of}
use Rattle.model_recipes.specs.Recipe.{input_heads}
use Rattle.model_texts.specs.Sheet.{lined, word_on, input_count, step_count, sheet_headers, coefficient_count}
use Rattle.model_texts.specs.Sheet.{sheet_steps, rest_count, headers_refusal, read_refusal}
use Rattle.recipes_check.specs.Asks.{or-none, ask-none}
use Rattle.sheet_reading.specs.Headers.{header_on, GoodHeads, heads-good, total-most}
use Rattle.sheet_reading.specs.Reading.{Sized, sized, sizes_test, rest_refusal}

pub record Opened (t : List ℕ) : Type 0 where
  pub sizes : Sized t
  pub headers : (headers_refusal t (input_count t) 0).number ≡ 0

pub headers-many : (t : List ℕ) → length (sheet_headers t) ≡ input_count t
unfolding sheet_headers
headers-many t = length-table (header_on t) (input_count t)

pub steps-many : (t : List ℕ) → length (sheet_steps t) ≡ step_count t
unfolding sheet_steps
steps-many t = length-table (λ j. word_on t (1 + input_count t + coefficient_count t + j)) (step_count t)

module _ {t : List ℕ} (o : Opened t) where
  pub opened-good : GoodHeads (input_heads (sheet_headers t))
  unfolding sheet_headers
  opened-good = heads-good t (input_count t) o.headers

  -- 16 inputs of 4,096 coefficients
  pub opened-few : coefficient_count t ≤ 4096 * input_count t
  unfolding coefficient_count
  opened-few =
      let hs = input_heads (sheet_headers t) in
      omega (arith, total-most hs (λ p. (opened-good.at p).most), length-map (sheet_headers t) header_of, headers-many t)

pub opened : (t : List ℕ) → (read_refusal t).number ≡ 0 → Opened t
unfolding read_refusal
opened t e =
    let rest : Refusal = rest_refusal t (rest_count t) (1 + input_count t) in
    let a = ask-none (lined t 0) 64 _ (λ z. omega (arith, z)) e in
    let b = ask-none (sizes_test t) 64 _ (λ z. omega (arith, z)) a.1 in
    let d = or-none (headers_refusal t (input_count t) 0) rest b.1 in
    record { sizes = sized t a.0 b.0; headers = d.0 }
