-- Placings worked out by hand.
use Rattle.std.specs.Prelude.{[], ◌∷◌, ◌≡◌, refl}
use Rattle.lists.specs.Chain.{chain}
use Rattle.lists.specs.Every.{every}
use Rattle.model_placing.specs.Least.{least}
use Rattle.model_placing.specs.Placing.{clear_of, free, highest, placed_at, offsets, needed}

-- a chain of four: a step's value never lies over its operand, the gap below is used again, and an exact fit fits
pub chained : offsets (1 ∷ 2 ∷ 3 ∷ 3 ∷ []) (2 ∷ 3 ∷ 2 ∷ 4 ∷ []) ≡ 0 ∷ 2 ∷ 0 ∷ 2 ∷ []
unfolding offsets chain placed_at least free every clear_of highest
chained = refl

-- 6 places in place of 11
pub chained-needed : needed (1 ∷ 2 ∷ 3 ∷ 3 ∷ []) (2 ∷ 3 ∷ 2 ∷ 4 ∷ []) ≡ 6
unfolding needed offsets chain placed_at least free every clear_of highest
chained-needed = refl

-- the lowest gap and not the best: of the gaps [0, 3) and [4, 6) a value of 2 takes the first
pub lowest-gap : offsets (3 ∷ 5 ∷ 3 ∷ 5 ∷ 4 ∷ []) (3 ∷ 1 ∷ 2 ∷ 1 ∷ 2 ∷ []) ≡ 0 ∷ 3 ∷ 4 ∷ 6 ∷ 0 ∷ []
unfolding offsets chain placed_at least free every clear_of highest
lowest-gap = refl

-- a value that nobody reads has its part during its own step, and counts in the length: step 1 of 5 places
pub unread : needed (2 ∷ 1 ∷ 2 ∷ []) (2 ∷ 5 ∷ 1 ∷ []) ≡ 7
unfolding needed offsets chain placed_at least free every clear_of highest
unread = refl
