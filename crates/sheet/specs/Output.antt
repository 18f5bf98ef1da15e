-- What is printed for a sheet, by how it ends.
use Rattle.std.specs.Prelude.{ℕ, ◌+◌, ◌-◌, List, ◌≡◌, refl, Float, take, drop}
use Rattle.std.proofs.Common.{sym, ◌∙◌, arith}
use borrow.Author.Tests.{eq-eqb, ne_eqb}
use Rattle.model.specs.declared.Refusal.{Refusal}
use Rattle.model.specs.Word.{word_of}
use Rattle.model_texts.specs.Printed.{done_text, refused_text}
use Rattle.model_texts.specs.Sheet.{step_count, read_refusal, sheet_refusal, last_value, sheet_output}
use Rattle.sheet_solving.specs.declared.Solved.{Solved}
use Rattle.sheet_solving.specs.Solves.{Solution}
use Rattle.sheet_solving.specs.Ended.{read-refused}

module _ (t : List ℕ) where
  pub output-refused : {q : Refusal} → sheet_refusal t ≡ q → (q.number ≡ 0 → ⊥) → sheet_output t ≡ refused_text q
  unfolding sheet_output
  output-refused {q} e z = rw (e, ne_eqb q.number 0 z)

  pub output-done : (sheet_refusal t).number ≡ 0 → sheet_output t ≡ done_text (step_count t) (word_of (last_value t).head) (last_value t).coeffs
  unfolding sheet_output
  output-done e = rw (eq-eqb (sheet_refusal t).number 0 e)

  pub output-read : {r : Refusal} → r ≡ read_refusal t → (r.number ≡ 0 → ⊥) → sheet_output t ≡ refused_text r
  output-read e z = output-refused (sym (read-refused t e z)) z

-- what is printed for a sheet that is not refused, with the coefficients as `&pool[from..from + count]` reads them
pub output_solved : {t headers steps known : List ℕ} {pool : List Float} {s : Solved} → Solution t headers steps known pool s → (sheet_refusal t).number ≡ 0
    → sheet_output t ≡ done_text s.steps s.header (take (s.from + s.count - s.from) (drop s.from pool))
output_solved {t} {headers} {steps} {known} {pool} {s} d z =
    let e : s.from + s.count - s.from ≡ s.count = omega arith in
    output-done t z ∙ rw (e, d.steps, d.last.header, d.last.coefficients) refl
