-- A run over one pool with the second placing, for any step function that looks at its operands alone: every step finds
-- the values that were written, so each value, the last too, is what it is where nothing is ever written over.
use Prim.Native.Nat.{ℕ, zero, suc, ◌+◌, ◌-◌, ◌≤◌, ◌<◌}
use Rattle.std.specs.Prelude.{true, ◌≡◌}
use mathlib.Core.List.{List, [], ◌++◌}
use Rattle.std.proofs.Math.Path.{refl, sym, ap}
use Rattle.std.proofs.Common.{◌∙◌, length-append, drop-drop}
use native.Mathlib.Omega.{arith}
use Rattle.std.proofs.Math.Nat.{zero-add}
use Rattle.std.proofs.Math.Numerals.{add-one}
use Rattle.std.proofs.Math.ListN.{length, get_or, take, drop, length-drop}
use Rattle.std.proofs.Math.Seq.{take_at, drop_at, length-take-le}
use Rattle.lists.specs.Grow.{grow, grow-at, grow-keeps, length-grow}
use Rattle.lists.specs.Part.{Kept}
use Rattle.model_placing.specs.Placing.{reads, last_readers, offsets, needed}
use Rattle.recipes_placing.specs.Placed.{part-within}
use Rattle.recipes_placing.specs.Live.{operand-live}
use Rattle.recipes_placing.specs.Holding.{lies, kept-rest, Holding, holding-none, holding-more}

module _ {A : Type 0} where
  -- v written from o on
  unfoldable pub written : ℕ → List A → List A → List A
  written o v pool = take o pool ++ (v ++ drop (o + length v) pool)

  pub length-written : (o : ℕ) (v pool : List A) → o + length v ≤ length pool → length (written o v pool) ≡ length pool
  unfolding written
  length-written o v pool h = simp (length-append, length-drop, length-take-le o pool (omega arith)) (omega arith)

  pub kept-written : (o : ℕ) (v pool : List A) → o + length v ≤ length pool → Kept o (o + length v) v pool (written o v pool)
  unfolding written
  kept-written o v pool h =
      let e : length (take o pool) ≡ o = length-take-le o pool (omega arith) in
      let d : drop o (written o v pool) ≡ v ++ drop (o + length v) pool = drop_at (take o pool) (v ++ drop (o + length v) pool) o e in
      let k : o + length v - o ≡ length v = omega arith in
      record {
        below = record { len = length-written o v pool h; head = take_at (take o pool) (v ++ drop (o + length v) pool) o e };
        holds = ap (λ (n : ℕ). take n (drop o (written o v pool))) k ∙ (ap (take (length v)) d ∙ take_at v (drop (o + length v) pool) (length v) refl);
        above = sym (drop-drop (length v) o (written o v pool)) ∙ (ap (drop (length v)) d ∙ drop_at v (drop (o + length v) pool) (length v) refl);
      }

-- f i g: the value of the step i, g j the value of the step j
module _ {A : Type 0} (f : ℕ → (ℕ → List A) → List A) where
  -- the values of n steps, nothing written over
  abbrev pub next_of : List (List A) → List A
  next_of vs = f (length vs) (λ j. get_or vs j [])

  unfoldable pub values_of : ℕ → List (List A)
  values_of n = grow n next_of []

  -- n steps over the pool: each reads its operands where they were written, and writes its value at its offset
  unfoldable pub run_of : List ℕ → List ℕ → List A → ℕ → List A
  run_of ls cs pool zero = pool
  run_of ls cs pool (suc n) =
      written (get_or (offsets ls cs) n 0) (f n (λ j. lies ls cs j (run_of ls cs pool n))) (run_of ls cs pool n)

  pub value_at_lem : (n i : ℕ) → i < n → get_or (values_of n) i [] ≡ f i (λ j. get_or (values_of i) j [])
  unfolding values_of
  value_at_lem n i h =
      (rw zero-add at (grow-at [] n i next_of [] h)) ∙ ap (λ (m : ℕ). f m (λ j. get_or (grow i next_of []) j [])) (length-grow i next_of [] ∙ zero-add i)

  pub value_keeps : (n i j : ℕ) → i ≤ n → j < i → get_or (values_of n) j [] ≡ get_or (values_of i) j []
  unfolding values_of
  value_keeps n i j h l = let e : n ≡ i + (n - i) = omega arith in rw e (grow-keeps [] i (n - i) next_of [] j (omega arith))

-- the recipe's steps ss after k inputs, cs their counts
pub record Stepping {A : Type 0} (k : ℕ) (ss cs : List ℕ) (f : ℕ → (ℕ → List A) → List A) : Type 0 where
  pub many : length ss ≡ length cs
  -- each value has its count
  pub sized : (i : ℕ) (g : ℕ → List A) → i < length cs → length (f i g) ≡ get_or cs i 0
  -- a step looks only at the steps that it reads
  pub alike : (i : ℕ) (g h : ℕ → List A) → i < length cs → ((j : ℕ) → j < i → reads (get_or ss i 0) (k + j) ≡ true → g j ≡ h j) → f i g ≡ f i h

module _ {A : Type 0} (k : ℕ) (ss cs : List ℕ) (f : ℕ → (ℕ → List A) → List A) (s : Stepping k ss cs f) (pool : List A)
    (room : needed (last_readers k ss) cs ≤ length pool) where
  abbrev ran : ℕ → List A
  ran n = run_of f (last_readers k ss) cs pool n

  abbrev all : List (List A)
  all = values_of f (length cs)

  pub record Ran (n : ℕ) : Type 0 where
    pub len : length (ran n) ≡ length pool
    pub holding : Holding (last_readers k ss) cs all n (ran n)
    -- what lies past the length needed is untouched
    pub rest : drop (needed (last_readers k ss) cs) (ran n) ≡ drop (needed (last_readers k ss) cs) pool

  -- the step n computes its value from what it finds in the pool
  pub found-value : (n : ℕ) → n < length cs → Ran n → f n (λ j. lies (last_readers k ss) cs j (ran n)) ≡ get_or all n []
  found-value n h r =
      s.alike n (λ j. lies (last_readers k ss) cs j (ran n)) (λ j. get_or (values_of f n) j []) h
      (λ j l e. r.holding.operands j l (operand-live k ss j n l (omega (arith, s.many)) e) ∙ value_keeps f (length cs) n j (omega arith) l)
      ∙ sym (value_at_lem f (length cs) n h)

  -- after n steps
  pub ran-holds : (n : ℕ) → n ≤ length cs → Ran n
  unfolding run_of
  ran-holds zero h = record { len = refl; holding = holding-none (last_readers k ss) cs all pool; rest = refl }
  ran-holds (suc n) h =
      let r : Ran n = ran-holds n (omega arith) in
      let o : ℕ = get_or (offsets (last_readers k ss) cs) n 0 in
      let v : List A = f n (λ j. lies (last_readers k ss) cs j (ran n)) in
      let c : length v ≡ get_or cs n 0 = s.sized n (λ j. lies (last_readers k ss) cs j (ran n)) (omega arith) in
      let w : o + length v ≤ length (ran n) = omega (arith, r.len, part-within (last_readers k ss) cs n (omega arith)) in
      let kept : Kept o (o + get_or cs n 0) (get_or all n []) (ran n) (written o v (ran n)) =
      rw (← c, ← found-value n (omega arith) r) (kept-written o v (ran n) w) in
      record {
        len = length-written o v (ran n) w ∙ r.len;
        holding = rw add-one at (holding-more (last_readers k ss) cs all {i = n} (omega arith) r.holding kept);
        rest = kept-rest (needed (last_readers k ss) cs) kept (part-within (last_readers k ss) cs n (omega arith)) ∙ r.rest;
      }

  -- each step finds its operands as they were written
  pub operand-found : (i j : ℕ) → i < length cs → j < i → reads (get_or ss i 0) (k + j) ≡ true → lies (last_readers k ss) cs j (ran i) ≡ get_or all j []
  operand-found i j h l e = (ran-holds i (omega arith)).holding.operands j l (operand-live k ss j i l (omega (arith, s.many)) e)

  -- the last value is in its part when all is done
  pub last_found : (j : ℕ) → j + 1 ≡ length cs → lies (last_readers k ss) cs j (ran (length cs)) ≡ get_or all j []
  last_found j e = (ran-holds (length cs) (omega arith)).holding.latest j e

  -- and each value is when its step ends
  pub value_found : (j : ℕ) → j < length cs → lies (last_readers k ss) cs j (ran (j + 1)) ≡ get_or all j []
  value_found j h = (ran-holds (j + 1) (omega arith)).holding.latest j refl
