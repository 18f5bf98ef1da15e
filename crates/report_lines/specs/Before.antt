-- A text that stands in another.
use Rattle.std.specs.Prelude.{ℕ, zero, suc, ◌<◌, List, [], ◌++◌, ◌≡◌, eqb}
use Rattle.std.proofs.Common.{append_assoc, append-nil, sym, ap, ◌∙◌, arith, eqb-true}
use Rattle.std.proofs.lemmas.Bool.{eqb-false}
use Rattle.lists.specs.Test.{decide}
use Rattle.model_texts.specs.Report.{joined}

-- a text stands in another
pub record Within (part whole : List ℕ) : Type 0 where
  pub before : List ℕ
  pub after : List ℕ
  pub is : whole ≡ before ++ (part ++ after)

pub within-behind : {part whole : List ℕ} (front : List ℕ) → Within part whole → Within part (front ++ whole)
within-behind {part} front w =
    record {
      before = front ++ w.before;
      after = w.after;
      is = ap (λ (l : List ℕ). front ++ l) w.is
          ∙ sym (append_assoc front w.before (part ++ w.after));
    }

pub within-before : {part whole : List ℕ} (back : List ℕ) → Within part whole → Within part (whole ++ back)
within-before {part} back w =
    record {
      before = w.before;
      after = w.after ++ back;
      is =
          ap (λ (l : List ℕ). l ++ back) w.is ∙ (append_assoc w.before (part ++ w.after) back
          ∙ ap (λ (l : List ℕ). w.before ++ l) (append_assoc part w.after back));
    }

-- each of the texts that are joined
pub joined-each : (f : ℕ → List ℕ) (n k : ℕ) → k < n → Within (f k) (joined f n)
unfolding joined
joined-each f zero k l = absurd (omega arith)
joined-each f (suc n) k l =
    decide (eqb k n)
    (λ t. let e : k ≡ n = eqb-true k n t in rw e (within-behind (joined f n) (record { before = []; after = []; is = sym (append-nil (f n)) })))
    (λ t. let d = eqb-false k n t in within-before (f n) (joined-each f n k (omega (arith, d))))
