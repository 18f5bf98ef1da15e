-- Laws of the second placing: each offset is the least that is free, parts that are live together lie apart, and the
-- pool is no longer than the sum of all counts.
use Prim.Native.Nat.{ℕ, zero, suc, ◌+◌, ◌≤◌, ◌<◌, max}
use Rattle.std.specs.Prelude.{Bool, true, false, ◌&&◌, ◌||◌, not, ◌≡◌, refl, leb, length}
use mathlib.Core.List.{List, [], ◌∷◌, ◌++◌}
use Rattle.std.proofs.Common.{sym, ◌∙◌, inl, inr, take-suc, get_or-take, length-take-le, le-leb, leb-true, leb-false}
use Rattle.std.proofs.Math.Path.{ap}
use native.Mathlib.Omega.{arith}
use Rattle.std.proofs.Math.Nat.{zero-add}
use Rattle.std.proofs.Math.ListN.{get_or, take}
use Rattle.std.proofs.Math.Seq.{take-length}
use Rattle.lists.specs.Test.{and_left, and_right, or_right, or_intro, decide}
use Rattle.lists.specs.Chain.{chain, length-chain, chain-take, chain-at}
use Rattle.lists.specs.Every.{every}
use Rattle.shape_operands.specs.Apart.{Apart}
use Rattle.model_placing.specs.Least.{Least}
use Rattle.recipes_placing.specs.Least.{least-least, least-most, clash}
use Rattle.model_placing.specs.Placing.{apart, clear_of, free, highest, placed_at, offsets, needed}

-- a test of a range, place by place

pub every-at : (f : ℕ → Bool) (n p : ℕ) → every f n p ≡ true → (q : ℕ) → p ≤ q → q < p + n → f q ≡ true
unfolding every
every-at f zero p h q a b = absurd (omega arith)
every-at f (suc n) p h q a b =
    decide (leb q p) (λ t. let e : p ≡ q = omega (arith, leb-true q p t) in ap f (sym e) ∙ and_left (f p) (every f n (suc p)) h)
    (λ t. every-at f n (suc p) (and_right (f p) (every f n (suc p)) h) q (omega (arith, leb-false q p t)) (omega arith))

both : (a b : Bool) → a ≡ true → b ≡ true → (a && b) ≡ true
both a b p q = rw (p, q)

pub every-all : (f : ℕ → Bool) (n p : ℕ) → ((q : ℕ) → p ≤ q → q < p + n → f q ≡ true) → every f n p ≡ true
unfolding every
every-all f zero p h = refl
every-all f (suc n) p h = both (f p) (every f n (suc p)) (h p (omega arith) (omega arith)) (every-all f n (suc p) (λ q a b. h q (omega arith) (omega arith)))

-- the highest end

pub highest-above : (os cs : List ℕ) (j : ℕ) → j < length os → length os ≤ length cs → get_or os j 0 + get_or cs j 0 ≤ highest os cs
unfolding highest
highest-above [] cs j h l = absurd (omega arith)
highest-above (o ∷ os) [] j h l = absurd (omega arith)
highest-above (o ∷ os) (c ∷ cs) zero h l = omega arith
highest-above (o ∷ os) (c ∷ cs) (suc j) h l = omega (arith, highest-above os cs j (omega arith) (omega arith))

pub highest-none : (cs : List ℕ) → highest [] cs ≡ 0
unfolding highest
highest-none cs = refl

pub highest_snoc : (os cs : List ℕ) (o : ℕ) → length os < length cs → highest (os ++ (o ∷ [])) cs ≡ max (highest os cs) (o + get_or cs (length os) 0)
unfolding highest
highest_snoc [] [] o l = absurd (omega arith)
highest_snoc [] (c ∷ cs) o l = omega arith
highest_snoc (p ∷ os) [] o l = absurd (omega arith)
highest_snoc (p ∷ os) (c ∷ cs) o l = omega (arith, highest_snoc os cs o (omega arith))

or-true : (a b : Bool) → b ≡ true → (a || b) ≡ true
or-true a b h = or_intro a b (λ _. h)

-- what `apart` says, as numbers
pub apart-apart : (o c p d : ℕ) → apart o c p d ≡ true → Apart o c p d
apart-apart o c p d h =
    decide (leb (o + c) p) (λ t. record { either = inl (leb-true (o + c) p t) })
    (λ t. record { either = inr (leb-true (p + d) o (or_right (leb (o + c) p) (leb (p + d) o) h t)) })

module _ (ls cs : List ℕ) where
  -- free, step by step
  pub free-at : (os : List ℕ) (c o : ℕ) → free ls cs os c o ≡ true → (j : ℕ) → j < length os → length os ≤ get_or ls j 0
      → apart o c (get_or os j 0) (get_or cs j 0) ≡ true
  unfolding free clear_of
  free-at os c o h j l a =
      or_right (not (leb (length os) (get_or ls j 0))) _ (every-at (clear_of ls cs os c o) (length os) 0 h j (omega arith) (omega arith)) (rw (le-leb _ _ a))

  pub free_all : (os : List ℕ) (c o : ℕ) → ((j : ℕ) → j < length os → clear_of ls cs os c o j ≡ true) → free ls cs os c o ≡ true
  unfolding free
  free_all os c o h = every-all (clear_of ls cs os c o) (length os) 0 (λ q a b. h q (omega arith))

  -- a live part in the way
  pub free-not : (os : List ℕ) (c o j : ℕ) → j < length os → clear_of ls cs os c o j ≡ false → free ls cs os c o ≡ false
  unfolding free
  free-not os c o j l h =
      decide (free ls cs os c o)
      (λ t. absurd (clash (clear_of ls cs os c o j) (every-at (clear_of ls cs os c o) (length os) 0 t j (omega arith) (omega arith)) h))
      (λ f. f)

  -- the highest end is free
  pub highest-free : (os : List ℕ) (c : ℕ) → length os ≤ length cs → free ls cs os c (highest os cs) ≡ true
  unfolding clear_of
  highest-free os c l =
      free_all os c (highest os cs)
      (λ j h. or-true (not (leb (length os) (get_or ls j 0))) (apart (highest os cs) c (get_or os j 0) (get_or cs j 0))
      (or-true (leb (highest os cs + c) (get_or os j 0)) (leb (get_or os j 0 + get_or cs j 0) (highest os cs)) (le-leb _ _ (highest-above os cs j h l))))

  -- a step's offset is the least that is free
  pub placed-least : (c : ℕ) (os : List ℕ) → length os ≤ length cs → Least (free ls cs os c) (placed_at ls cs c os)
  unfolding placed_at
  placed-least c os l = least-least (free ls cs os c) (highest os cs) (highest-free os c l)

  pub placed-most : (c : ℕ) (os : List ℕ) → placed_at ls cs c os ≤ highest os cs
  unfolding placed_at
  placed-most c os = least-most (free ls cs os c) (highest os cs)

  pub length-offsets : length (offsets ls cs) ≡ length cs
  unfolding offsets
  length-offsets = length-chain (placed_at ls cs) [] cs ∙ zero-add (length cs)

  -- the steps before the step i
  pub offsets-take : (i : ℕ) → i ≤ length cs → take i (offsets ls cs) ≡ chain (placed_at ls cs) [] (take i cs)
  unfolding offsets
  offsets-take i h = rw zero-add at (chain-take (placed_at ls cs) [] cs i h)

  pub offset_at : (i : ℕ) → i < length cs → get_or (offsets ls cs) i 0 ≡ placed_at ls cs (get_or cs i 0) (take i (offsets ls cs))
  unfolding offsets
  offset_at i h = (rw zero-add at (chain-at (placed_at ls cs) 0 0 [] cs i h)) ∙ ap (placed_at ls cs (get_or cs i 0)) (sym (offsets-take i (omega arith)))

  pub length_before : (i : ℕ) → i ≤ length cs → length (take i (offsets ls cs)) ≡ i
  length_before i h = length-take-le i (offsets ls cs) (omega (arith, length-offsets))

  -- each offset is the least at which the step's part overlaps no live part
  pub offset-least : (i : ℕ) → i < length cs → Least (free ls cs (take i (offsets ls cs)) (get_or cs i 0)) (get_or (offsets ls cs) i 0)
  offset-least i h = rw (offset_at i h) (placed-least (get_or cs i 0) (take i (offsets ls cs)) (omega (arith, length_before i (omega arith))))

  -- no two parts overlap of which the earlier is live when the later is placed
  pub live-apart : (j i : ℕ) → j < i → i < length cs → i ≤ get_or ls j 0
      → Apart (get_or (offsets ls cs) i 0) (get_or cs i 0) (get_or (offsets ls cs) j 0) (get_or cs j 0)
  live-apart j i l h a =
      let os : List ℕ = take i (offsets ls cs) in
      let e : length os ≡ i = length_before i (omega arith) in
      let k : get_or os j 0 ≡ get_or (offsets ls cs) j 0 = get_or-take i (offsets ls cs) j 0 l in
      apart-apart _ _ _ _
      (rw (← k) (free-at os (get_or cs i 0) (get_or (offsets ls cs) i 0) (offset-least i h).passes j (omega arith) (omega arith)))

  -- at every step s: two different parts of steps up to s that are live, or the step's own, lie apart
  pub together-apart : (j i s : ℕ) → j < i → i ≤ s → s < length cs → s ≤ get_or ls j 0
      → Apart (get_or (offsets ls cs) i 0) (get_or cs i 0) (get_or (offsets ls cs) j 0) (get_or cs j 0)
  together-apart j i s l m h a = live-apart j i l (omega arith) (omega arith)

  -- every part ends within the length needed
  pub part-within : (i : ℕ) → i < length cs → get_or (offsets ls cs) i 0 + get_or cs i 0 ≤ needed ls cs
  unfolding needed
  part-within i h = highest-above (offsets ls cs) cs i (omega (arith, length-offsets)) (omega (arith, length-offsets))

-- the sum of all counts
unfoldable pub sum_of : List ℕ → ℕ
sum_of [] = 0
sum_of (c ∷ cs) = c + sum_of cs

pub sum_snoc : (cs : List ℕ) (c : ℕ) → sum_of (cs ++ (c ∷ [])) ≡ sum_of cs + c
unfolding sum_of
sum_snoc [] c = omega arith
sum_snoc (d ∷ cs) c = omega (arith, sum_snoc cs c)

module _ (ls cs : List ℕ) where
  -- one step more
  pub offsets-suc : (i : ℕ) → i < length cs → take (suc i) (offsets ls cs) ≡ take i (offsets ls cs) ++ (get_or (offsets ls cs) i 0 ∷ [])
  offsets-suc i h = take-suc (offsets ls cs) i 0 (omega (arith, length-offsets ls cs))

  pub top-suc : (i : ℕ) → i < length cs
      → highest (take (suc i) (offsets ls cs)) cs ≡ max (highest (take i (offsets ls cs)) cs) (get_or (offsets ls cs) i 0 + get_or cs i 0)
  top-suc i h =
      let os : List ℕ = take i (offsets ls cs) in
      let e : length os ≡ i = length_before ls cs i (omega arith) in
      rw (offsets-suc i h)
      (highest_snoc os cs (get_or (offsets ls cs) i 0) (omega arith) ∙ ap (λ (k : ℕ). max (highest os cs) (get_or (offsets ls cs) i 0 + get_or cs k 0)) e)

  pub top-most : (i : ℕ) → i ≤ length cs → highest (take i (offsets ls cs)) cs ≤ sum_of (take i cs)
  unfolding sum_of
  top-most zero h = omega (arith, highest-none cs)
  top-most (suc i) h =
      omega (
        arith,
        top-most i (omega arith),
        top-suc i (omega arith),
        sum_snoc (take i cs) (get_or cs i 0),
        ap sum_of (take-suc cs i 0 (omega arith)),
        placed-most ls cs (get_or cs i 0) (take i (offsets ls cs)),
        offset_at ls cs i (omega arith),
      )

  -- the length is at most the old placing's, the sum of all counts
  pub needed-most : needed ls cs ≤ sum_of cs
  unfolding needed
  needed-most =
      let e : take (length cs) (offsets ls cs) ≡ offsets ls cs = rw (← length-offsets ls cs) (take-length (offsets ls cs)) in
      omega (arith, top-most (length cs) (omega arith), ap (λ (l : List ℕ). highest l cs) e, ap sum_of (take-length cs))
