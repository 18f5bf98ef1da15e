-- What `answer` promises, and that it admits one outcome (document 01, 'What each answer owes').
use Rattle.std.specs.Prelude.{ℕ, List, ◌≡◌}
use Rattle.std.proofs.Common.{sym, ◌∙◌}
use Rattle.model_forecast.specs.declared.Asked.{Asked}
use Rattle.model_forecast.specs.Told.{told_text}
use Rattle.report_lines.specs.Puts.{Printed}

-- t the sheet, asked what the arguments ask for, out the output as it came, out' as it is left, r the answer
abbrev pub AnswerPromise : List ℕ → Asked → List ℕ → ℕ → List ℕ → Type 0
AnswerPromise t asked out r out' = Printed (told_text t asked) out out' r

pub answer-once : (t : List ℕ) (asked : Asked) (out : List ℕ) {r1 r2 : ℕ} {o1 o2 : List ℕ} → AnswerPromise t asked out r1 o1
    → AnswerPromise t asked out r2 o2 → (r1 ≡ r2) × (o1 ≡ o2)
answer-once t asked out p q = (p.behind ∙ sym q.behind, p.is ∙ sym q.is)
