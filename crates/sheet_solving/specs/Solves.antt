-- How a sheet ends, and where its last value lies: what `solve` ensures, and the functions below it.
use Rattle.std.specs.Prelude.{Result, OnErr, IfOk, ℕ, ◌+◌, ◌≤◌, List, map, ◌≡◌, cond, Float, length, take, drop}
use Rattle.model.specs.declared.Refusal.{Refusal}
use Rattle.model.specs.Header.{stored}
use Rattle.model.specs.Word.{header_of, word_of}
use Rattle.model.specs.Passes.{Says}
use Rattle.model.specs.Refusals.{is_none}
use Rattle.model_recipes.specs.Recipe.{announced_places, announced_steps, total}
use Rattle.model_recipes.specs.Check.{or_else, check_refusal}
use Rattle.model_recipes.specs.Run.{zero_pool}
use Rattle.model_texts.specs.Sheet.{input_count, step_count, sheet_headers, sheet_steps, sheet_recipe, own_refusal, read_refusal, sheet_refusal, last_value}
use Rattle.recipes_kinds.specs.Known.{Known}
use Rattle.sheet_solving.specs.declared.Solved.{Solved}

-- i inputs, n steps, the last value's header word w, its coefficients from the place f on
abbrev pub solved_by : ℕ → ℕ → ℕ → ℕ → Solved
solved_by i n w f = record { inputs = i; steps = n; header = w; from = f; count = stored (header_of w) }

-- the last value of the sheet t: its header word w, and c coefficients in the pool from the place f on
pub record LastAt (t : List ℕ) (pool : List Float) (w f c : ℕ) : Type 0 where
  pub header : w ≡ word_of (last_value t).head
  pub count : c ≡ length (last_value t).coeffs
  pub full : c ≡ stored (header_of w)
  pub few : c ≤ 256
  pub within : f + c ≤ 2048
  pub held : f + c ≤ length pool
  pub coefficients : take c (drop f pool) ≡ (last_value t).coeffs

-- a run of the headers hs and the steps ss of the sheet t has ended
pub record Ending (t hs ss : List ℕ) (pool : List Float) (s : Solved) : Type 0 where
  pub inputs : s.inputs ≡ length hs
  pub steps : s.steps ≡ length ss
  pub last : LastAt t pool s.header s.from s.count

-- ---- what a refusal leaves

-- by what the sheet t is refused before its run: as it is read, by the check, by the program's own limits
unfoldable pub before_run : List ℕ → Refusal
before_run t = or_else (read_refusal t) (or_else (check_refusal (sheet_recipe t)) (own_refusal (sheet_recipe t)))

-- of the pool ps: all of it where the sheet is refused before its run; a run that stops has cleared what it announced
unfoldable pub left_pool : List ℕ → List Float → List Float
left_pool t ps = cond (is_none (before_run t)) (zero_pool (total (announced_steps (sheet_recipe t))) ps) ps

-- ---- how it ends

-- of the run of a sheet that is not refused before it; ps: the pool as it came
pub record Ends (t hs ss : List ℕ) (ps pool : List Float) (r : Result Solved Refusal) : Type 0 where
  pub says : Says (λ q. q ≡ sheet_refusal t) r
  pub refused : OnErr r (pool ≡ left_pool t ps)
  pub done : IfOk r (λ s. Ending t hs ss pool s)

-- the sheet t is not refused; hs, ss, ks, ps: the buffers for headers, steps, places and the pool, as they are left
pub record Solution (t hs ss ks : List ℕ) (ps : List Float) (s : Solved) : Type 0 where
  pub inputs : s.inputs ≡ input_count t
  pub few : s.inputs ≤ 16
  pub steps : s.steps ≡ step_count t
  pub some : 1 ≤ s.steps
  pub fit : s.inputs + s.steps ≤ 64
  pub header_words : take s.inputs hs ≡ sheet_headers t
  pub step_words : take s.steps ss ≡ sheet_steps t
  pub places : map header_of (take (s.inputs + s.steps) ks) ≡ announced_places (sheet_recipe t)
  pub known : Known (map header_of (take (s.inputs + s.steps) ks))
  pub last : LastAt t ps s.header s.from s.count

-- the headers stand at the front of the buffer hs' too
pub solution-front : {t hs ss ks : List ℕ} {ps : List Float} {s : Solved} (hs' : List ℕ) → Solution t hs ss ks ps s
    → take (input_count t) hs' ≡ sheet_headers t → Solution t hs' ss ks ps s
solution-front hs' d h =
    record {
      inputs = d.inputs;
      few = d.few;
      steps = d.steps;
      some = d.some;
      fit = d.fit;
      header_words = rw d.inputs h;
      step_words = d.step_words;
      places = d.places;
      known = d.known;
      last = d.last;
    }

pub record Ended (t hs ss ks : List ℕ) (ps ps' : List Float) (r : Result Solved Refusal) : Type 0 where
  pub says : Says (λ q. q ≡ sheet_refusal t) r
  pub refused : OnErr r (ps' ≡ left_pool t ps)
  pub done : IfOk r (λ s. Solution t hs ss ks ps' s)

-- as long as any sheet takes: buffers of m steps, k places and p places of a pool; of n headers besides
pub record Lent (m k p : ℕ) : Type 0 where
  pub steps : 64 ≤ m
  pub known : 64 ≤ k
  pub pool : 2048 ≤ p

pub record Buffers (n m k p : ℕ) : Type 0 where
  pub headers : 16 ≤ n
  pub steps : 64 ≤ m
  pub known : 64 ≤ k
  pub pool : 2048 ≤ p

-- hs, ss, ks, ps: the buffers as they came; hs', ss', ks', ps': as they are left. Of hs', ss' and ks' after a refusal
-- only the lengths are promised
pub record Solves (t hs ss ks : List ℕ) (ps : List Float) (hs' ss' ks' : List ℕ) (ps' : List Float) (r : Result Solved Refusal) : Type 0 where
  pub says : Says (λ q. q ≡ sheet_refusal t) r
  pub headers_len : length hs' ≡ length hs
  pub steps_len : length ss' ≡ length ss
  pub known_len : length ks' ≡ length ks
  pub pool_len : length ps' ≡ length ps
  pub refused : OnErr r (ps' ≡ left_pool t ps)
  pub done : IfOk r (λ s. Solution t hs' ss' ks' ps' s)
