-- The values of an accepted recipe's steps in a pool with the second placing: each step finds its operands, and the
-- last value is what the first placing has. Of either edition.
use Rattle.std.specs.Prelude.{ℕ, zero, suc, ◌+◌, ◌*◌, ◌≤◌, ◌<◌, true, List, [], ◌∷◌, ◌++◌, map, ◌≡◌, refl, take, drop, Float}
use Rattle.std.proofs.Common.{sym, ◌∙◌, arith, le_refl}
use Rattle.std.proofs.Math.Path.{ap}
use Rattle.std.proofs.Math.ListN.{length, get_or}
use Rattle.lists.specs.Part.{part}
use Rattle.model.specs.declared.Header.{Header}
use Rattle.model.specs.Header.{stored}
use Rattle.model.specs.Refusals.{padded}
use Rattle.model.specs.Poly.{Poly}
use Rattle.model_recipes.specs.Recipe.{Recipe, head_at, input_heads, announced_steps, total, largest}
use Rattle.model_recipes.specs.Check.{check_refusal}
use Rattle.model_recipes.specs.Run.{value_at, laid, step_values}
use Rattle.model_placing.specs.Placing.{reads, step_readers, step_counts, step_offsets, pool_needed, last_offset}
use Rattle.model_placing.specs.Reuse.{last_step, last_count, ReusedPool}
use Rattle.recipes_laws.specs.Ahead.{length-announced}
use Rattle.recipes_laws.specs.Values.{follows-all}
use Rattle.recipes_laws.specs.Buffers.{steps-fit}
use Rattle.recipes_laws.specs.Laid.{Fitting, laid-at}
use Rattle.recipes_placing.specs.Live.{operand-live}
use Rattle.recipes_placing.specs.Holding.{lies, Holding}

-- each value with +0.0 up to its announced count
unfoldable pub parts_of : List Header → List Poly → List (List Float)
parts_of [] vs = []
parts_of (h ∷ known) [] = []
parts_of (h ∷ known) (v ∷ vs) = padded (stored h) v.coeffs ∷ parts_of known vs

pub part-is : (known : List Header) (vs : List Poly) → length vs ≡ length known → (i : ℕ) → i < length known
    → get_or (parts_of known vs) i [] ≡ padded (stored (head_at known i)) (value_at vs i).coeffs
unfolding parts_of
part-is [] vs e i l = absurd (omega arith)
part-is (h ∷ known) [] e i l = absurd (omega arith)
part-is (h ∷ known) (v ∷ vs) e zero l = refl
part-is (h ∷ known) (v ∷ vs) e (suc i) l = part-is known vs (omega arith) i (omega arith)

-- the count of a step
count_at : (known : List Header) (j : ℕ) → j < length known → get_or (map stored known) j 0 ≡ stored (head_at known j)
count_at [] j l = absurd (omega arith)
count_at (h ∷ known) zero l = refl
count_at (h ∷ known) (suc j) l = count_at known j (omega arith)

-- cs the inputs' coefficients
module _ (it : Recipe) (cs : List Float) where
  -- i steps of the recipe have written their values
  abbrev pub Stands : ℕ → List Float → Type 0
  Stands i pool = Holding (step_readers it) (step_counts it) (parts_of (announced_steps it) (step_values it cs)) i pool

  abbrev pub part_at : ℕ → List Float → List Float
  part_at j pool = lies (step_readers it) (step_counts it) j pool

  -- the check accepts, and all inputs are there
  module _ (z : (check_refusal it).number ≡ 0) (full : total (input_heads it.headers) ≤ length cs) where
    fits : Fitting (announced_steps it) (step_values it cs)
    fits = steps-fit it cs (follows-all it cs {m = 8 * largest (announced_steps it)} z full (le_refl _))

    -- an operand of the step i that is a step lies in its part
    pub operand-stands : {i : ℕ} {pool : List Float} → Stands i pool → (j : ℕ) → j < i → i < length it.steps
        → reads (get_or it.steps i 0) (length it.headers + j) ≡ true
        → part_at j pool ≡ padded (stored (head_at (announced_steps it) j)) (value_at (step_values it cs) j).coeffs
    unfolding step_readers
    operand-stands {i} s j l h e =
        s.operands j l (operand-live (length it.headers) it.steps j i l h e)
        ∙ part-is (announced_steps it) (step_values it cs) fits.same j (omega (arith, length-announced it))

    -- the last value is the first placing's, whatever lies behind that
    pub last_as-before : {pool : List Float} (rest : List Float) (j : ℕ) → j + 1 ≡ length it.steps → Stands (length it.steps) pool
        → part_at j pool ≡ take (stored (head_at (announced_steps it) j))
        (drop (total (take j (announced_steps it))) (laid (announced_steps it) (step_values it cs) ++ rest))
    last_as-before rest j e s =
        let l : j < length (announced_steps it) = omega (arith, length-announced it) in
        s.latest j e
        ∙ (part-is (announced_steps it) (step_values it cs) fits.same j l
        ∙ sym (laid-at (announced_steps it) (step_values it cs) rest fits j l))

    -- where all steps have written and nothing behind the length was touched, the pool is as such a run has to leave it
    pub stands_reused : (pool : List Float) {pool' : List Float} → 1 ≤ length it.steps → Stands (length it.steps) pool'
        → length pool' ≡ length pool → drop (pool_needed it) pool' ≡ drop (pool_needed it) pool → ReusedPool it cs pool pool'
    unfolding last_offset step_offsets step_counts
    stands_reused pool {pool'} o s len rest =
        let l : last_step it < length (announced_steps it) = omega (arith, length-announced it) in
        let c : get_or (map stored (announced_steps it)) (last_step it) 0 ≡ last_count it = count_at (announced_steps it) (last_step it) l in
        record {
          len = len;
          last =
              ap (λ (k : ℕ). part (last_offset it) (last_offset it + k) pool') (sym c)
              ∙ (s.latest (last_step it) (omega arith) ∙ part-is (announced_steps it) (step_values it cs) fits.same (last_step it) l);
          rest = rest;
        }
