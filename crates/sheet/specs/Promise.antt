-- What `answer` promises, and that it admits one outcome (document 01, 'What each answer owes').
use Rattle.std.specs.Prelude.{ℕ, ◌≤◌, List, ◌≡◌, length}
use Rattle.std.proofs.Common.{sym, ◌∙◌}
use Rattle.lists.specs.Grow.{over}
use Rattle.model_texts.specs.Sheet.{sheet_output}

-- t the sheet, out the output as it came, out' as it is left, r the answer
abbrev pub AnswerPromise : List ℕ → List ℕ → ℕ → List ℕ → Type 0
AnswerPromise t out r out' = (r ≡ length (sheet_output t)) × ((r ≤ 4378) × (out' ≡ over (sheet_output t) out))

pub answer-once : (t out : List ℕ) {r1 r2 : ℕ} {o1 o2 : List ℕ} → AnswerPromise t out r1 o1 → AnswerPromise t out r2 o2 → (r1 ≡ r2) × (o1 ≡ o2)
answer-once t out p q = (p.0 ∙ sym q.0, p.1.1 ∙ sym q.1.1)
