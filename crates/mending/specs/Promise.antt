-- What `mend` promises, and that it admits one outcome.
use Rattle.std.specs.Prelude.{ℕ, ◌≤◌, List, ◌≡◌, length}
use Rattle.std.proofs.Common.{sym, ◌∙◌}
use Rattle.lists.specs.Grow.{over}
use Rattle.model_mending.specs.Mended.{mended_text}

-- t the text, out the output as it came, out' as it is left, r the answer
abbrev pub MendPromise : List ℕ → List ℕ → ℕ → List ℕ → Type 0
MendPromise t out r out' = (r ≡ length (mended_text t)) × ((r ≤ 117221) × (out' ≡ over (mended_text t) out))

pub mend-once : (t out : List ℕ) {r1 r2 : ℕ} {o1 o2 : List ℕ} → MendPromise t out r1 o1 → MendPromise t out r2 o2 → (r1 ≡ r2) × (o1 ≡ o2)
mend-once t out p q = (p.0 ∙ sym q.0, p.1.1 ∙ sym q.1.1)
