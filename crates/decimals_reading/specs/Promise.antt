-- What `read` promises, and that it admits one outcome (document 01, 'What each answer owes').
use Rattle.std.specs.Prelude.{ℕ, List, ◌≡◌}
use Rattle.std.proofs.Common.{sym, ◌∙◌}
use Rattle.model_decimals.specs.Results.{Read}
use Rattle.model_decimals.specs.Typed.{read_text}

-- t the text, r the answer
abbrev pub ReadPromise : List ℕ → Read → Type 0
ReadPromise t r = r ≡ read_text t

pub read-once : (t : List ℕ) {r1 r2 : Read} → ReadPromise t r1 → ReadPromise t r2 → r1 ≡ r2
read-once t p q = p ∙ sym q
