-- What is shown of a department, and of an answer.
use Rattle.std.specs.Prelude.{ℕ, ◌≤◌, ◌<◌, List, [], ◌++◌, ◌≡◌, refl, eqb}
use Rattle.std.proofs.Common.{append-nil, sym}
use borrow.Author.Tests.{lt-ltb, le-ltb}
use Rattle.model_texts.specs.Report.{when}
use Rattle.model_settings.specs.declared.Unsettled.{Unsettled}
use Rattle.model_settings.specs.declared.Unsettled.TheVariants.{NoDepartment, OutOfRange, Stale, NotKept, LastVersion, NoStore}
use Rattle.model_settings.specs.Store.{number}
use Rattle.settings_command.specs.Sentence.{refusal_text}
use Rattle.settings_text.specs.Text.{department_text, versions_text}
use Rattle.settings_command.specs.Asked.{current_text, kept_text}

module _ (d : ℕ) (w : List ℕ) where
  pub current-some : d < 32 → department_text w d ≡ current_text d w
  unfolding current_text
  current-some h = rw (lt-ltb d 32 h)

  pub current-none : 32 ≤ d → [] ≡ current_text d w
  unfolding current_text
  current-none h = rw (le-ltb d 32 h)

  pub kept-some : d < 32 → versions_text w d ≡ kept_text d w
  unfolding kept_text
  kept-some h = rw (lt-ltb d 32 h)

  pub kept-none : 32 ≤ d → [] ≡ kept_text d w
  unfolding kept_text
  kept-none h = rw (le-ltb d 32 h)

-- nothing stands behind a refusal that is not for a stale version
pub told-alone :
    (q : Unsettled) (t : List ℕ) → (q ≡ Stale → ⊥)
    → refusal_text (number q) ≡ refusal_text (number q) ++ when (eqb (number q) 13) t
unfolding number
told-alone NoDepartment t h = sym (append-nil (refusal_text 3))
told-alone OutOfRange t h = sym (append-nil (refusal_text 4))
told-alone Stale t h = absurd (h refl)
told-alone NotKept t h = sym (append-nil (refusal_text 14))
told-alone LastVersion t h = sym (append-nil (refusal_text 15))
told-alone NoStore t h = sym (append-nil (refusal_text 18))

-- and where it is, what is there now
pub told-stale :
    (q : Unsettled) (t : List ℕ) → q ≡ Stale
    → refusal_text (number q) ++ t ≡ refusal_text (number q) ++ when (eqb (number q) 13) t
unfolding number
told-stale q t h = rw h refl
