-- REFERENCE 13.6. Document 02, W11: 'a planner drags rooms into another order and expects the same department'. Rooms
-- are multiplied two at a time, in some grouping; an order is a list, and another order is reached by swapping
-- neighbours.
use Rattle.std.specs.Prelude.{List, [], ◌∷◌, ◌++◌, ℕ, ℤ}
use Rattle.model_caps.specs.Order.{Capped, product}

-- a polynomial with its cap, and the whole number at each stored place
pub record Room : Type 0 where
  pub poly : Capped
  pub numbers : ℕ → ℤ

-- multiplied two at a time
pub data Grouped : Type 0 where
  alone : Room → Grouped
  both : Grouped → Grouped → Grouped

unfoldable pub department : Grouped → Capped
department (Grouped.alone r) = r.poly
department (Grouped.both s t) = product (department s) (department t)

unfoldable pub rooms : Grouped → List Room
rooms (Grouped.alone r) = r ∷ []
rooms (Grouped.both s t) = rooms s ++ rooms t

-- the same rooms in another order
pub data Reordered : List Room → List Room → Type 0 where
  none : Reordered [] []
  keep : {r : Room} {xs ys : List Room} → Reordered xs ys → Reordered (r ∷ xs) (r ∷ ys)
  swap : {r s : Room} {xs : List Room} → Reordered (r ∷ s ∷ xs) (s ∷ r ∷ xs)
  again : {xs ys zs : List Room} → Reordered xs ys → Reordered ys zs → Reordered xs zs
