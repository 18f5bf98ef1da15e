-- Of an accepted recipe: what its places announce, and its values with no limits and with them, each place from those
-- before it.
use Rattle.std.specs.Prelude.{ℕ, ◌-◌, ◌≤◌, ◌<◌, List, ◌≡◌, get_or, take, ℤ}
use Rattle.std.proofs.Math.Path.{ap}
use Rattle.std.proofs.Common.{◌∙◌, arith}
use Rattle.std.proofs.Math.ListN.{length}
use Rattle.std.proofs.lemmas.List.{length-map}
use Rattle.std.proofs.Math.Seq.{length-take-le}
use Rattle.lists.specs.Chain.{length-chain}
use Rattle.lists.specs.Table.{length-table, table_at}
use Rattle.model.specs.Header.{no_header}
use Rattle.model.specs.Word.{header_of}
use Rattle.model_recipes.specs.Recipe.{Recipe, announced_step, input_heads, announced_places}
use Rattle.recipes_kinds.specs.Known.{head_at_lem}
use Rattle.laws_full.specs.Unlimited.{no_value, value_at, step_result, input_value, input_values, unlimited}
use Rattle.laws_full.specs.Limited.{cut_to, limited_step, limited}
use Rattle.laws_full.specs.Places.{chain_first, chain-step}
use Rattle.laws_full.specs.Setting.{size, known, head, word}

module _ (it : Recipe) where
  many-heads : length (input_heads it.headers) ≡ length it.headers
  many-heads = length-map it.headers header_of

  pub head-input : (p : ℕ) → p < length it.headers → head it p ≡ header_of (get_or it.headers p 0)
  unfolding announced_places
  head-input p l = chain_first (announced_step it.edition) no_header (input_heads it.headers) it.steps p (omega (arith, many-heads))
      ∙ head_at_lem it.headers p

  pub head_step : (p : ℕ) → length it.headers ≤ p → p < size it
      → head it p ≡ announced_step it.edition (word it p) (take p (known it))
  unfolding announced_places
  head_step p i l =
      rw many-heads at
      (chain-step (announced_step it.edition) no_header (input_heads it.headers) it.steps p (omega (arith, many-heads)) (omega (arith, many-heads)))

  module _ (cs : ℕ → ℕ → ℤ) where
    many_inputs : length (input_values it.headers cs) ≡ length it.headers
    unfolding input_values
    many_inputs = length-table (λ i. input_value (get_or it.headers i 0) (cs i)) (length it.headers)

    input-at : (p : ℕ) → p < length it.headers → value_at (input_values it.headers cs) p ≡ input_value (get_or it.headers p 0) (cs p)
    unfolding input_values
    input-at p l = table_at no_value (λ i. input_value (get_or it.headers i 0) (cs i)) (length it.headers) p l

    pub unlimited-input : (p : ℕ) → p < length it.headers → value_at (unlimited it cs) p ≡ input_value (get_or it.headers p 0) (cs p)
    unfolding unlimited
    unlimited-input p l =
        chain_first step_result no_value (input_values it.headers cs) it.steps p (omega (arith, many_inputs)) ∙ input-at p l

    pub unlimited-step : (p : ℕ) → length it.headers ≤ p → p < size it
        → value_at (unlimited it cs) p ≡ step_result (word it p) (take p (unlimited it cs))
    unfolding unlimited
    unlimited-step p i l =
        rw many_inputs at
        (chain-step step_result no_value (input_values it.headers cs) it.steps p (omega (arith, many_inputs))
        (omega (arith, many_inputs)))

    pub limited-input : (p : ℕ) → p < length it.headers → value_at (limited it cs) p ≡ input_value (get_or it.headers p 0) (cs p)
    unfolding limited
    limited-input p l =
        chain_first (limited_step (known it)) no_value (input_values it.headers cs) it.steps p (omega (arith, many_inputs))
        ∙ input-at p l

    many-limited : length (limited it cs) ≡ size it
    unfolding limited
    many-limited = length-chain (limited_step (known it)) (input_values it.headers cs) it.steps ∙ rw many_inputs

    pub limited_step_lem : (p : ℕ) → length it.headers ≤ p → p < size it
        → value_at (limited it cs) p ≡ cut_to (head it p) (step_result (word it p) (take p (limited it cs)))
    unfolding limited limited_step
    limited_step_lem p i l =
        let e : length (take p (limited it cs)) ≡ p =
        length-take-le p (limited it cs) (omega (arith, many-limited)) in
        (rw many_inputs at
        (chain-step (limited_step (known it)) no_value (input_values it.headers cs) it.steps p (omega (arith, many_inputs))
        (omega (arith, many_inputs))))
        ∙ ap (λ (q : ℕ). cut_to (head it q) (step_result (word it p) (take p (limited it cs)))) e
