-- REFERENCE 6.6. Document 02, W4: the second placing of step values, from step words and announced counts alone. A
-- step's part is free after the last step that reads it, at once if none does; a new value goes to the lowest offset at
-- which it overlaps no part that is not free. The pool is as long as the highest end. Nothing is placed after the last
-- step, so its part is kept.
use Rattle.std.specs.Prelude.{ℕ, suc, ◌+◌, ◌-◌, max, Bool, ◌&&◌, ◌||◌, not, cond, List, [], ◌∷◌, map, leb, eqb, length, get_or, drop}
use Rattle.lists.specs.Chain.{chain}
use Rattle.lists.specs.Table.{table}
use Rattle.lists.specs.Every.{every}
use Rattle.model.specs.Header.{stored}
use Rattle.model_recipes.specs.Steps.{step_of, uses_of}
use Rattle.model_recipes.specs.Recipe.{Recipe, announced_steps}
use Rattle.model_placing.specs.Least.{least}

-- the step word w names the place p in an operand that its kind uses, whether or not the value is needed
unfoldable pub reads : ℕ → ℕ → Bool
reads w p = let s = step_of w in let u = uses_of s.kind in (u.a && eqb s.a p) || (u.b && eqb s.b p)

-- the last of the steps ws, numbered from i on, that reads the place p; r where none does
unfoldable pub last_from : ℕ → ℕ → List ℕ → ℕ → ℕ
last_from p i [] r = r
last_from p i (w ∷ ws) r = last_from p (suc i) ws (cond (reads w p) i r)

-- the last reader of the step number j, the place k + j after k inputs: among the steps ss after it; itself where none
-- reads it
unfoldable pub last_reader : ℕ → List ℕ → ℕ → ℕ
last_reader k ss j = last_from (k + j) (suc j) (drop (suc j) ss) j

unfoldable pub last_readers : ℕ → List ℕ → List ℕ
last_readers k ss = table (length ss) (last_reader k ss)

-- c places from o on and d places from p on do not overlap
abbrev pub apart : ℕ → ℕ → ℕ → ℕ → Bool
apart o c p d = leb (o + c) p || leb (p + d) o

-- ls the last readers, cs the counts of all steps
module _ (ls cs : List ℕ) where
  -- the part of the step j, an earlier one, is live when the step i is placed: its last reader is i or later
  abbrev pub live : ℕ → ℕ → Bool
  live i j = leb i (get_or ls j 0)

  -- os the offsets of the steps before: c places from o on do not overlap the part of the step j, or it is free
  unfoldable pub clear_of : List ℕ → ℕ → ℕ → ℕ → Bool
  clear_of os c o j = not (live (length os) j) || apart o c (get_or os j 0) (get_or cs j 0)

  -- .. and so for each step before
  unfoldable pub free : List ℕ → ℕ → ℕ → Bool
  free os c o = every (clear_of os c o) (length os) 0

-- the highest end of the parts at os with the counts cs
unfoldable pub highest : List ℕ → List ℕ → ℕ
highest [] cs = 0
highest (o ∷ os) [] = 0
highest (o ∷ os) (c ∷ cs) = max (o + c) (highest os cs)

module _ (ls cs : List ℕ) where
  -- the next step, of c places: the least free offset (the highest end of all parts before is always free)
  unfoldable pub placed_at : ℕ → List ℕ → ℕ
  placed_at c os = least (free ls cs os c) (highest os cs)

  -- the offsets of all steps
  unfoldable pub offsets : List ℕ
  offsets = chain placed_at [] cs

  -- the length that the pool needs
  unfoldable pub needed : ℕ
  needed = highest offsets cs

-- ---- of a recipe

unfoldable pub step_readers : Recipe → List ℕ
step_readers it = last_readers (length it.headers) it.steps

-- announced counts, not true ones
unfoldable pub step_counts : Recipe → List ℕ
step_counts it = map stored (announced_steps it)

unfoldable pub step_offsets : Recipe → List ℕ
step_offsets it = offsets (step_readers it) (step_counts it)

unfoldable pub pool_needed : Recipe → ℕ
pool_needed it = needed (step_readers it) (step_counts it)

-- where the last step's part begins
unfoldable pub last_offset : Recipe → ℕ
last_offset it = get_or (step_offsets it) (length it.steps - 1) 0
