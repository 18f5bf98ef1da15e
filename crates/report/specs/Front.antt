-- The first 1,115,218 bytes of a sheet decide what `limits` prints, as they decide what `recipe` prints. A text that is
-- longer is refused while it is read.
use Rattle.std.specs.Prelude.{ℕ, ◌<◌, List, ◌≡◌, leb, length, take}
use Rattle.std.proofs.Common.{sym, ap, ◌∙◌, arith, length-take, take_all, leb-true, leb-false}
use Rattle.lists.specs.Test.{decide}
use Rattle.model_texts.specs.Sheet.{read_refusal}
use Rattle.model_forecast.specs.declared.Asked.{Asked}
use Rattle.model_forecast.specs.Told.{told_text}
use Rattle.sheet.specs.Front.{read_at_most}
use Rattle.report_refused.specs.Front.{fault-front}
use Rattle.report_refused.specs.Said.{read_is}
use Rattle.report_refused.specs.Small.{read_length}
use Rattle.report.specs.Tells.{told-refused}

module _ (t : List ℕ) where
  abbrev u : List ℕ
  u = take read_at_most t

  long-front : (asked : Asked) → read_at_most < length t → told_text u asked ≡ told_text t asked
  long-front asked l =
      let n : (read_refusal t).number ≡ 0 → ⊥ = λ z. omega (arith, read_length t z) in
      let m : (read_refusal u).number ≡ 0 → ⊥ = λ z. omega (arith, read_length u z, length-take read_at_most t) in
      told-refused u asked (read_is u m) m ∙ (fault-front t ∙ sym (told-refused t asked (read_is t n) n))

  pub told-front : (asked : Asked) → told_text (take read_at_most t) asked ≡ told_text t asked
  told-front asked =
      decide (leb (length t) read_at_most)
      (λ a. ap (λ (x : List ℕ). told_text x asked) (take_all read_at_most t (leb-true _ _ a)))
      (λ a. long-front asked (leb-false _ _ a))
