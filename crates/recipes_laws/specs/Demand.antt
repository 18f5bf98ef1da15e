-- Demand 3: 'If the check accepts and the buffers are as long as it says, then for any coefficients the run finishes
-- every step (answers done), each limit is exactly the one announced, no stored length exceeds its announced one, and
-- each value is the operation's value (demand 2's definition) of its operands' values.'
-- Document 02, W13: 'Demand 3 then reads: the run finishes, or stops at the first kind 11 step whose constant is
-- outside the range or NaN.' A stop 'leaves the announced pool and the used scratch at +0.0 and the step headers at 0'.
-- Said of definitions of the room model alone, for all words, coefficients and buffers. The theorem is `demand_3`,
-- proofs/Demanded.antt.
use Rattle.std.specs.Prelude.{Ok, Err, ℕ, ◌+◌, ◌*◌, ◌≤◌, ◌<◌, true, false, List, ◌≡◌, length, take, drop, get_or, Float}
use Rattle.model.specs.declared.Header.{Header}
use Rattle.model_recipes.specs.declared.Step.{Step}
use Rattle.model.specs.Header.{len, stored, no_header, good_header}
use Rattle.model.specs.Word.{word_of}
use Rattle.model.specs.Refusals.{refused_at, padded, cleared}
use Rattle.model.specs.Poly.{Poly}
use Rattle.model.specs.Constructed.{constant, whole_f}
use Rattle.model.specs.Negate.{negated}
use Rattle.model.specs.Add.{combined}
use Rattle.model.specs.Product.{product_poly}
use Rattle.model.specs.Quotient.{quotient_poly}
use Rattle.model.specs.Power.{power_poly}
use Rattle.model.specs.Shifts.{derivative_poly, expansion_poly, shift_down_poly}
use Rattle.model.specs.Substitute.{substitute_poly}
use Rattle.model_exponential.specs.Step.{exponential_poly}
use Rattle.model_recipes.specs.Kinds.{idle, one_like}
use Rattle.model_recipes.specs.Steps.{step_of, uses_of}
use Rattle.model_recipes.specs.Recipe.{Recipe, head_at, announced_places, announced_steps, total, largest}
use Rattle.model_recipes.specs.Check.{check_answer}
use Rattle.model_recipes.specs.Run.{input_values, value_at, values, zero_pool, zero_words, run_answer, run_pool, run_words, run_scratch}
use Rattle.model_recipes.specs.Stops.{FirstStop}
use Rattle.model_recipes.specs.Results.{accepting}

-- the value v keeps to the announced header h
pub record AsAnnounced (h : Header) (v : Poly) : Type 0 where
  -- each limit is exactly the one announced
  pub vars : v.head.vars ≡ h.vars
  pub limits : v.head.limits ≡ h.limits
  -- and so is the cap (document 02, W10)
  pub cap : v.head.cap ≡ h.cap
  -- no stored length exceeds its announced one
  pub lengths : (k : ℕ) → k < 4 → len v.head k ≤ len h k
  -- it is a polynomial
  pub rules : good_header v.head ≡ true
  pub full : length v.coeffs ≡ stored v.head

-- the value v of the step s in the edition ed at the place p is its operation's of its operands' values, by its kind;
-- they stand at earlier places
pub record Computed (ed : ℕ) (s : Step) (p : ℕ) (value : ℕ → Poly) (v : Poly) : Type 0 where
  pub kinds : s.kind ≤ 11
  pub a_earlier : (uses_of s.kind).a ≡ true → s.a < p
  pub b_earlier : (uses_of s.kind).b ≡ true → s.b < p
  pub constants : s.kind ≡ 0 → v ≡ constant no_header (whole_f s.n)
  pub negates : s.kind ≡ 1 → v ≡ negated (value s.a)
  pub adds : s.kind ≡ 2 → v ≡ combined false (value s.a) (value s.b)
  pub subtracts : s.kind ≡ 3 → v ≡ combined true (value s.a) (value s.b)
  pub multiplies : s.kind ≡ 4 → v ≡ product_poly (value s.a) (value s.b)
  pub divides : s.kind ≡ 5 → v ≡ quotient_poly (value s.a) (value s.b)
  -- a power of zero in edition 1 apart (document 02, W7)
  pub powers : s.kind ≡ 6 → idle ed s.n ≡ false → v ≡ power_poly s.n (value s.a)
  pub idles : s.kind ≡ 6 → idle ed s.n ≡ true → v ≡ one_like (value s.a)
  pub derives : s.kind ≡ 7 → v ≡ derivative_poly s.variable s.n (value s.a)
  pub expands : s.kind ≡ 8 → v ≡ expansion_poly s.variable s.n (value s.a)
  pub shifts : s.kind ≡ 9 → v ≡ shift_down_poly s.variable s.n (value s.a)
  pub substitutes : s.kind ≡ 10 → v ≡ substitute_poly s.variable (value s.a) (value s.b)
  pub exponentials : s.kind ≡ 11 → v ≡ exponential_poly (value s.a)

-- cs the inputs' coefficients, pool, words and scratch the buffers as they came
module _ (it : Recipe) (cs : List Float) (pool : List Float) (words : List ℕ) (scratch : List Float) where
  -- the value of a place, inputs first, and what it announces
  abbrev pub value : ℕ → Poly
  value p = value_at (values it cs) p

  abbrev pub head : ℕ → Header
  head p = head_at (announced_places it) p

  -- the place of the step number i
  abbrev pub step_place : ℕ → ℕ
  step_place i = length it.headers + i

  pub record StepDone (i : ℕ) : Type 0 where
    pub announced : AsAnnounced (head (step_place i)) (value (step_place i))
    pub computed : Computed it.edition (step_of (get_or it.steps i 0)) (step_place i) value (value (step_place i))
    -- the buffers hold it: its true header, and its coefficients, then +0.0, at the announced places
    pub word : get_or (run_words it cs pool words scratch) i 0 ≡ word_of (value (step_place i)).head
    pub coeffs : take (stored (head (step_place i))) (drop (total (take i (announced_steps it))) (run_pool it cs pool words scratch))
        ≡ padded (stored (head (step_place i))) (value (step_place i)).coeffs

  pub record Finished : Type 0 where
    pub done : run_answer it cs pool words scratch ≡ (Ok tt)
    -- the first places hold the inputs
    pub inputs : take (length it.headers) (values it cs) ≡ input_values it.headers cs
    pub steps : (i : ℕ) → i < length it.steps → StepDone i

  -- stopped at the step number i: 12 at its place, and no value, word or scratch of this run is left
  pub record StoppedAt (i : ℕ) : Type 0 where
    pub answer : run_answer it cs pool words scratch ≡ Err (refused_at 12 (step_place i))
    pub pool_zero : run_pool it cs pool words scratch ≡ zero_pool (total (announced_steps it)) pool
    pub words_zero : run_words it cs pool words scratch ≡ zero_words (length it.steps) words
    pub scratch_zero : run_scratch it cs pool words scratch ≡ cleared (largest (announced_steps it)) scratch

  -- the check accepts, and the buffers are as long as it says
  pub record Provided : Type 0 where
    pub places : ℕ
    pub most : ℕ
    pub inputs : ℕ
    pub accepted : check_answer it ≡ accepting places most inputs
    pub coefficients : inputs ≤ length cs
    pub pool_long : places ≤ length pool
    pub words_long : length it.steps ≤ length words
    pub scratch_long : 8 * most ≤ length scratch

  pub record Demand3 : Type 0 where
    -- no step stops the run
    pub finishes : Provided → ((i : ℕ) → FirstStop it cs i → ⊥) → Finished
    -- nor can one where none is an exponential
    pub finishes_plain : Provided → ((i : ℕ) → i < length it.steps → (step_of (get_or it.steps i 0)).kind ≡ 11 → ⊥) → Finished
    pub stops : Provided → (i : ℕ) → FirstStop it cs i → StoppedAt i
