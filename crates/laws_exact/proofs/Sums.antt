-- What rests on laws of specs/ (Sums).
use Rattle.std.specs.Prelude.{◌≡◌, Bool, true, false, List, ℕ, ◌+◌, ◌^◌, ◌≤◌, length}
use Rattle.lists.specs.Four.{at}
use Rattle.model.specs.declared.Family.TheVariants.{Sum}
use Rattle.model.specs.Announced.{announced, paired}
use Rattle.model.specs.Poly.{Poly, block_of, coefficient_at}
use Rattle.model.specs.Add.{combined}
use Rattle.model_textbook.specs.Textbook.{Series, weight, plus, less}
use Rattle.laws_whole.specs.Whole.{Whole}
use Rattle.shape_words.specs.Rules.{Regular}
use Rattle.shape_words.specs.Lengths.{Inside}
use Rattle.laws_keeps.specs.Keeps.{limits_of, left-sits, right-sits}
use Rattle.laws_exact.specs.Wholes.{Is, cut-is}
use Rattle.laws_exact.specs.Joins.{join_z, joined_is}
use Rattle.laws_exact.specs.Sums.{room}

-- Only what the cut leaves has to be whole, and |A| and |B| are of that: each sums under the smaller limits alone.
module _ (p q : Poly) (g : Regular p.head) (h : Regular q.head) {A B : Series} (u : Is (limits_of p q) (block_of p) A)
    (v : Is (limits_of p q) (block_of q) B) (bound : weight (limits_of p q) A + weight (limits_of p q) B ≤ 2 ^ 53) where
  pub combined-is : (minus : Bool) → Is (limits_of p q) (block_of (combined minus p q)) (λ k. join_z minus (A k) (B k))
  unfolding combined announced paired
  combined-is minus = joined_is minus (left-sits p q g h) (right-sits p q g h) (cut-is u) (cut-is v) ((room p q g h u v bound) minus)

  pub sum-exact-cut : (k : List ℕ) → length k ≡ 4 → Inside (announced Sum p.head q.head).limits k
      → Whole (coefficient_at (block_of (combined false p q)) k) (plus A B k)
  unfolding plus announced paired
  sum-exact-cut = (combined-is false).at

  pub difference-exact-cut : (k : List ℕ) → length k ≡ 4 → Inside (announced Sum p.head q.head).limits k
      → Whole (coefficient_at (block_of (combined true p q)) k) (less A B k)
  unfolding less announced paired
  difference-exact-cut = (combined-is true).at
