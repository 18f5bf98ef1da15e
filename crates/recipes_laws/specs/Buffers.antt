-- The buffers after a run that is done: each step's true header and coefficients stand in its own places.
use Prim.Native.Nat.{ℕ, ◌+◌, ◌<◌}
use mathlib.Core.List.{List, map, ◌++◌}
use Rattle.std.specs.Prelude.{◌≡◌, length, take, get_or, Float}
use Rattle.std.proofs.Math.Path.{ap}
use Rattle.std.proofs.Common.{◌∙◌, arith}
use Rattle.std.proofs.Math.ListN.{drop, length-map, length-drop, get_or-map, get_or-append}
use Rattle.std.proofs.Math.Seq.{get_or-drop}
use Rattle.model.specs.Header.{stored, no_header}
use Rattle.model.specs.Word.{word_of, fields}
use Rattle.model.specs.Refusals.{padded}
use Rattle.model.specs.Poly.{Poly}
use Rattle.model_recipes.specs.Recipe.{Recipe, head_at, announced_places, announced_steps, total}
use Rattle.model_recipes.specs.Run.{no_value, value_at, values, step_values, laid, run_stop, run_refusal, run_end, run_pool, run_words}
use Rattle.shape.specs.Under.{count_under}
use Rattle.recipes_laws.specs.Follows.{Follows}
use Rattle.recipes_laws.specs.Ahead.{length-announced}
use Rattle.recipes_laws.specs.Ends.{end-done}
use Rattle.recipes_laws.specs.Laid.{Fitting, laid-at}

module _ (it : Recipe) (cs : List Float) (f : Follows (announced_places it) (values it cs)) where
  step-head : (i : ℕ) → head_at (announced_steps it) i ≡ head_at (announced_places it) (length it.headers + i)
  unfolding announced_steps
  step-head i = get_or-drop (length it.headers) (announced_places it) i no_header

  step_value_lem : (i : ℕ) → value_at (step_values it cs) i ≡ value_at (values it cs) (length it.headers + i)
  unfolding step_values
  step_value_lem i = get_or-drop (length it.headers) (values it cs) i no_value

  same-steps : length (step_values it cs) ≡ length (announced_steps it)
  unfolding announced_steps step_values
  same-steps = omega (arith, f.same, length-drop (length it.headers) (announced_places it), length-drop (length it.headers) (values it cs))

  pub steps-fit : Fitting (announced_steps it) (step_values it cs)
  steps-fit =
      record {
        same = same-steps;
        fits = λ p l. rw (step-head p, step_value_lem p) (let k = f.keeps (length it.headers + p) in omega (arith, k.full, count_under k.under));
      }

  module _ (pool : List Float) (words : List ℕ) (scratch : List Float)
      (z : (run_refusal it cs pool words scratch).number ≡ 0) (y : (run_stop it cs).number ≡ 0) (i : ℕ) (l : i < length it.steps) where
    pub word_kept : get_or (run_words it cs pool words scratch) i 0 ≡ word_of (value_at (values it cs) (length it.headers + i)).head
    unfolding run_words run_end word_of fields
    word_kept =
        let word : Poly → ℕ = λ v. word_of v.head in
        let ws = map word (step_values it cs) in
        rw (end-done (run_refusal it cs pool words scratch) (run_stop it cs) z y)
        (get_or-append ws (drop (length it.steps) words) 0 i (omega (arith, length-map (step_values it cs) word, same-steps, length-announced it))
        ∙ (get_or-map word (step_values it cs) i no_value ∙ ap word (step_value_lem i)))

    pub coeffs-kept : take (stored (head_at (announced_places it) (length it.headers + i)))
        (drop (total (take i (announced_steps it))) (run_pool it cs pool words scratch))
        ≡ padded (stored (head_at (announced_places it) (length it.headers + i))) (value_at (values it cs) (length it.headers + i)).coeffs
    unfolding run_pool run_end
    coeffs-kept =
        let rest = drop (total (announced_steps it)) pool in
        rw (
          ← step-head i,
          ← step_value_lem i,
          end-done (run_refusal it cs pool words scratch) (run_stop it cs) z y,
        )
        (laid-at (announced_steps it) (step_values it cs) rest steps-fit i (omega (arith, length-announced it)))
