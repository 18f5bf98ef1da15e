-- The loop that places step after step.
use Rattle.std.specs.Prelude.{ℕ, zero, suc, ◌+◌, ◌≤◌, ◌<◌, max, ◌≡◌, refl, length, get_or, take, drop, set}
use mathlib.Core.List.{List, [], ◌∷◌, ◌++◌}
use Rattle.std.proofs.Common.{sym, ◌∙◌, arith, add-one, length-set, take-suc, take_all, take_at}
use Rattle.std.proofs.Math.Path.{ap}
use Rattle.lists.specs.Table.{table, front, length-table}
use Rattle.lists.specs.Grow.{over, take-over, over-more}
use Rattle.model_placing.specs.Placing.{highest, placed_at, offsets, needed, last_reader, last_readers}
use Rattle.recipes_placing.specs.Placed.{length-offsets, length_before, offset_at, offsets-suc, top-suc, top-most}
use Rattle.recipes_placing.specs.Placed.{placed-most, highest-none, sum_of, sum_snoc}

-- i steps are placed: their offsets stand in `starts`, d at first
pub record Going (ls cs d starts : List ℕ) (top i : ℕ) : Type 0 where
  pub most : i ≤ length cs
  pub len : length starts ≡ length d
  pub is : starts ≡ over (take i (offsets ls cs)) d
  pub high : top ≡ highest (take i (offsets ls cs)) cs

pub going-none : (ls cs d : List ℕ) → Going ls cs d d 0 0
going-none ls cs d = record { most = omega arith; len = refl; is = refl; high = sym (highest-none cs) }

sum-take : (n : ℕ) (cs : List ℕ) → sum_of (take n cs) ≤ sum_of cs
unfolding sum_of
sum-take zero cs = omega arith
sum-take (suc n) [] = omega arith
sum-take (suc n) (c ∷ cs) = omega (arith, sum-take n cs)

module _ {ls cs d starts : List ℕ} {top i : ℕ} (s : Going ls cs d starts top i) (h : i < length cs) where
  pub going_before : take i starts ≡ take i (offsets ls cs)
  going_before = rw s.is (take-over (take i (offsets ls cs)) d i (length_before ls cs i (omega arith)))

  pub going-length : length (take i starts) ≡ i
  going-length = rw going_before (length_before ls cs i (omega arith))

  pub going-fits : highest (take i starts) cs + get_or cs i 0 ≤ sum_of cs
  going-fits =
      rw going_before
      (omega (arith, top-most ls cs i (omega arith), sum-take (suc i) cs, sum_snoc (take i cs) (get_or cs i 0), ap sum_of (take-suc cs i 0 h)))

  module _ {at : ℕ} (e : at ≡ placed_at ls cs (get_or cs i 0) (take i starts)) where
    pub going-at : at ≡ get_or (offsets ls cs) i 0
    going-at = e ∙ (ap (placed_at ls cs (get_or cs i 0)) going_before ∙ sym (offset_at ls cs i h))

    pub going_end : at + get_or cs i 0 ≤ sum_of cs
    going_end = omega (arith, going-fits, placed-most ls cs (get_or cs i 0) (take i starts))

    pub going_more : i < length d → {top' : ℕ} → top' ≡ max top (at + get_or cs i 0) → Going ls cs d (set starts i at) top' (i + 1)
    going_more l {top'} t =
        let k : take (i + 1) (offsets ls cs) ≡ take i (offsets ls cs) ++ (get_or (offsets ls cs) i 0 ∷ []) = rw add-one (offsets-suc ls cs i h) in
        record {
          most = omega arith;
          len = length-set starts i at ∙ s.len;
          is = ap (λ (l : List ℕ). set l i at) s.is ∙ (over-more (take i (offsets ls cs)) d at i (length_before ls cs i (omega arith)) l
              ∙ ap (λ (l : List ℕ). over l d) (ap (λ (a : ℕ). take i (offsets ls cs) ++ (a ∷ [])) going-at ∙ sym k));
          high = rw (add-one i, top-suc ls cs i h, ← s.high, ← going-at) t;
        }

module _ {ls cs d starts : List ℕ} {top i : ℕ} (s : Going ls cs d starts top i) (h : length cs ≤ i) where
  all : take i (offsets ls cs) ≡ offsets ls cs
  all = take_all i (offsets ls cs) (omega (arith, length-offsets ls cs))

  pub going-offsets : starts ≡ over (offsets ls cs) d
  going-offsets = s.is ∙ ap (λ (l : List ℕ). over l d) all

  pub going-needed : top ≡ needed ls cs
  unfolding needed
  going-needed = s.high ∙ ap (λ (l : List ℕ). highest l cs) all

-- what the code keeps of last readers is the list of them
pub readers-front : (k : ℕ) (ss d : List ℕ) {lasts : List ℕ} → lasts ≡ front (length ss) (last_reader k ss) d → take (length ss) lasts ≡ last_readers k ss
unfolding last_readers
readers-front k ss d e =
    ap (take (length ss)) e ∙ take_at (table (length ss) (last_reader k ss)) (drop (length ss) d) (length ss) (length-table (last_reader k ss) (length ss))

pub by_readers : (cs d : List ℕ) {ls ls' starts : List ℕ} {top : ℕ} → ls ≡ ls' → (starts ≡ over (offsets ls cs) d) × (top ≡ needed ls cs)
    → (starts ≡ over (offsets ls' cs) d) × (top ≡ needed ls' cs)
by_readers cs d e h = rw e at h
