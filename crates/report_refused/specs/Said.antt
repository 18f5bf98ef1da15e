-- What is said of a refused sheet, by whether it is refused while it is read.
use Rattle.std.specs.Prelude.{ℕ, List, ◌≡◌}
use Rattle.std.proofs.Math.Path.{refl}
use Rattle.std.proofs.Common.{sym, ap, ◌∙◌}
use borrow.Author.Tests.{eq-eqb, ne_eqb}
use Rattle.model.specs.declared.Refusal.{Refusal}
use Rattle.model_texts.specs.Sheet.{read_refusal, sheet_refusal}
use Rattle.model_faults.specs.Fault.{read_fault, recipe_fault, fault_text}
use Rattle.sheet_solving.specs.Ended.{read-refused}

module _ (t : List ℕ) where
  -- then it is the reading that refuses it
  pub read_is : ((read_refusal t).number ≡ 0 → ⊥) → sheet_refusal t ≡ read_refusal t
  read_is z = sym (read-refused t refl z)

  module _ {r : Refusal} (e : r ≡ sheet_refusal t) (z : r.number ≡ 0 → ⊥) where
    refused : (sheet_refusal t).number ≡ 0 → ⊥
    refused y = z (ap (λ (x : Refusal). x.number) e ∙ y)

    pub said_read : ((read_refusal t).number ≡ 0 → ⊥) → fault_text t ≡ read_fault t r
    unfolding fault_text
    said_read n = rw (ne_eqb (sheet_refusal t).number 0 refused, ne_eqb (read_refusal t).number 0 n, e) refl

    pub said-recipe : (read_refusal t).number ≡ 0 → fault_text t ≡ recipe_fault t r
    unfolding fault_text
    said-recipe n = rw (ne_eqb (sheet_refusal t).number 0 refused, eq-eqb (read_refusal t).number 0 n, e) refl
