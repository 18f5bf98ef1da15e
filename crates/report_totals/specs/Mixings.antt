-- The first `subst_var` of what was cut, as the code finds it.
use Rattle.std.specs.Prelude.{ℕ, ◌≤◌, ◌<◌, min, Bool, ◌&&◌, cond, List, ◌≡◌, ltb, eqb, length, get_or}
use Rattle.std.proofs.Common.{lt-ltb, le-ltb}
use Rattle.model.specs.declared.Header.{Header}
use Rattle.model.specs.declared.Family.{Family}
use Rattle.model_recipes.specs.declared.Step.{Step}
use Rattle.model_recipes.specs.Steps.{step_of}
use Rattle.model_recipes.specs.Recipe.{family_of}
use Rattle.model_texts.specs.Trace.{step_word}
use Rattle.model_texts.specs.Full.{full_at}
use Rattle.model_texts.specs.Whole.{needs_first, needs_second, first_out}
use Rattle.model_forecast.specs.Mixed.{mixes, mixed_next}

module _ (known : List Header) (ss : List ℕ) (inputs : ℕ) (fs : List ℕ) where
  pub mixes-is : (s : Step) {f : ℕ} → f ≡ first_out known ss inputs fs s.a → (eqb s.kind 10 && ltb f 64) ≡ mixes known ss inputs fs s
  unfolding mixes
  mixes-is s e = rw e

  module _ (ms : List ℕ) where
    pub mixed-input : length ms < inputs → 64 ≡ mixed_next known ss inputs fs ms
    unfolding mixed_next
    mixed-input h = rw (lt-ltb (length ms) inputs h)

    pub mixed-is : inputs ≤ length ms → {w : ℕ} {s : Step} {f g : Family} {n o x a y b r t : ℕ} {d i j : Bool}
        → w ≡ step_word ss inputs (length ms) → s ≡ step_of w → n ≡ full_at fs s.a s.variable
        → d ≡ mixes known ss inputs fs s → o ≡ cond d (length ms) 64
        → f ≡ family_of 0 s → i ≡ needs_first f → x ≡ get_or ms s.a 64 → a ≡ cond i x 64
        → g ≡ family_of 0 s → j ≡ needs_second g n → y ≡ get_or ms s.b 64 → b ≡ cond j y 64
        → t ≡ min a b → r ≡ min o t → r ≡ mixed_next known ss inputs fs ms
    unfolding mixed_next
    mixed-is h ew es en ed eo ef ei ex ea eg ej ey eb et er =
        rw (le-ltb (length ms) inputs h) (simp (er, et, eb, ey, ej, eg, ea, ex, ei, ef, eo, ed, en, es, ew))
