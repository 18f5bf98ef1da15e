-- The search for the lowest free offset: from 0 up, past the end of each live part that is in the way, until none is.
use Rattle.std.specs.Prelude.{ℕ, ◌+◌, ◌≤◌, ◌<◌, true, false, not, List, ◌≡◌, leb, ltb, length}
use Rattle.std.proofs.Common.{arith}
use Rattle.std.proofs.Math.ListN.{get_or}
use borrow.Author.Tests.{le-leb, lt-leb, ltb-true, ltb-false}
use Rattle.lists.specs.Test.{decide, or_intro}
use Rattle.recipes_placing.specs.Least.{least-one}
use Rattle.model_placing.specs.Placing.{apart, clear_of, free, highest, placed_at}
use Rattle.recipes_placing.specs.Placed.{highest-above, free_all, free-not, placed-least}

-- nothing below `at` is free, and c places from `at` on are clear of the steps before j
pub record Climb (ls cs os : List ℕ) (c at j : ℕ) : Type 0 where
  pub seen : j ≤ length os
  pub most : at ≤ highest os cs
  pub below : (o : ℕ) → o < at → free ls cs os c o ≡ false
  pub clear : (q : ℕ) → q < j → clear_of ls cs os c at q ≡ true

pub climb-none : (ls cs os : List ℕ) (c : ℕ) → Climb ls cs os c 0 0
climb-none ls cs os c = record { seen = omega arith; most = omega arith; below = λ o l. absurd (omega arith); clear = λ q l. absurd (omega arith) }

module _ {ls cs os : List ℕ} {c at j : ℕ} (s : Climb ls cs os c at j) where
  next : clear_of ls cs os c at j ≡ true → j < length os → Climb ls cs os c at (j + 1)
  next e l =
      record {
        seen = omega arith;
        most = s.most;
        below = s.below;
        clear = λ q h. decide (ltb q j) (λ t. s.clear q (ltb-true q j t)) (λ t. let k : q ≡ j = omega (arith, ltb-false q j t) in rw k e);
      }

  -- the step j is free
  pub climb-free : j < length os → get_or ls j 0 < length os → Climb ls cs os c at (j + 1)
  unfolding clear_of
  climb-free l h = next (rw (lt-leb (length os) (get_or ls j 0) h)) l

  -- its part ends before, or begins after
  pub climb-before : j < length os → get_or os j 0 + get_or cs j 0 ≤ at → Climb ls cs os c at (j + 1)
  unfolding clear_of
  climb-before l h =
      next (or_intro (not (leb (length os) (get_or ls j 0))) (apart at c (get_or os j 0) (get_or cs j 0))
      (λ _. or_intro (leb (at + c) (get_or os j 0)) (leb (get_or os j 0 + get_or cs j 0) at) (λ _. le-leb _ _ h))) l

  pub climb-after : j < length os → at + c ≤ get_or os j 0 → Climb ls cs os c at (j + 1)
  unfolding clear_of
  climb-after l h =
      next (or_intro (not (leb (length os) (get_or ls j 0))) (apart at c (get_or os j 0) (get_or cs j 0))
      (λ _. rw (le-leb (at + c) (get_or os j 0) h))) l

  -- it is in the way: nothing below its end is free
  pub climb-over : j < length os → length os ≤ length cs → length os ≤ get_or ls j 0 → at < get_or os j 0 + get_or cs j 0 → get_or os j 0 < at + c
      → Climb ls cs os c (get_or os j 0 + get_or cs j 0) 0
  unfolding clear_of
  climb-over l m a p q =
      record {
        seen = omega arith;
        most = highest-above os cs j l m;
        below = λ o h. decide (ltb o at) (λ t. s.below o (ltb-true o at t))
            (λ t. free-not ls cs os c o j l (let g = ltb-false o at t in
            rw (le-leb (length os) (get_or ls j 0) a, lt-leb (o + c) (get_or os j 0) (omega arith), lt-leb (get_or os j 0 + get_or cs j 0) o (omega arith))));
        clear = λ r h. absurd (omega arith);
      }

  -- no step is in the way
  pub climb_end : length os ≤ j → length os ≤ length cs → at ≡ placed_at ls cs c os
  climb_end l m =
      least-one {f = free ls cs os c}
      (record { passes = free_all ls cs os c at (λ q h. s.clear q (omega arith)); below = s.below })
      (placed-least ls cs c os m)
