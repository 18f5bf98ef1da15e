-- REFERENCE 9.9. A cut before a substitution. A term that a limit left out belongs past the limits of what follows, and
-- what is shown there is right; but `subst_var` puts something for a variable of its first operand, and a term that is
-- missing there may belong inside the limits. From words alone; fs are the full lengths of all places.
use Rattle.std.specs.Prelude.{ℕ, min, Bool, not, ◌&&◌, cond, List, [], ◌++◌, leb, ltb, eqb, length, get_or}
use Rattle.lists.specs.Bytes.{bytes}
use Rattle.lists.specs.Grow.{grow}
use Rattle.model.specs.declared.Header.{Header}
use Rattle.model_recipes.specs.declared.Step.{Step}
use Rattle.model_recipes.specs.Steps.{step_of}
use Rattle.model_recipes.specs.Recipe.{family_of}
use Rattle.model_texts.specs.Trace.{step_word}
use Rattle.model_texts.specs.Full.{full_at}
use Rattle.model_texts.specs.Whole.{needs_first, needs_second, first_out}
use Rattle.model_texts.specs.Report.{tell, when}

module _ (known : List Header) (ss : List ℕ) (inputs : ℕ) (fs : List ℕ) where
  -- a `subst_var` whose first operand was cut, or is made of what was
  unfoldable pub mixes : Step → Bool
  mixes s = eqb s.kind 10 && ltb (first_out known ss inputs fs s.a) 64

  -- the first such place, of the next place and all that it is made of, 64 for none; ms: those of the places before it
  unfoldable pub mixed_next : List ℕ → ℕ
  mixed_next ms =
      let p = length ms in
      let s = step_of (step_word ss inputs p) in
      let f = family_of 0 s in
      cond (ltb p inputs) 64
      (min (cond (mixes s) p 64)
      (min (cond (needs_first f) (get_or ms s.a 64) 64)
      (cond (needs_second f (full_at fs s.a s.variable)) (get_or ms s.b 64) 64)))

  unfoldable pub mixeds : ℕ → List ℕ
  mixeds n = grow n mixed_next []

  abbrev pub first_mixed : ℕ → ℕ
  first_mixed p = mixed_next (mixeds p)

-- m the first such place that the answer is made of
unfoldable pub mixed_text : ℕ → List ℕ
mixed_text m =
    when (ltb m 64)
    (tell "Place " m
    ++ (bytes " (subst_var) puts something for a variable of a table that was cut:\n" ++ bytes "the figures shown may be wrong, and not only incomplete.\n"))
