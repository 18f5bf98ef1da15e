-- What rests on laws of specs/ (Multiplied).
use Rattle.std.specs.Prelude.{◌||◌, List, ℕ, ◌≤◌, ◌<◌}
use Rattle.lists.specs.Test.{decide}
use Rattle.lists.specs.Four.{at}
use Rattle.model.specs.Poly.{Block}
use Rattle.model.specs.Product.{is_zero, multiplied}
use Rattle.model_textbook.specs.Textbook.{Series, times}
use Rattle.laws_keeps.specs.Sits.{Sits, cut-sits}
use Rattle.laws_exact.specs.Generals.{Fits}
use Rattle.laws_exact.specs.Wholes.{Is, cut-is}
use Rattle.laws_exact.proofs.Stages.{product_is}
use Rattle.laws_exact.specs.Multiplied.{zero-way, zero_is}

-- ---- the product

module _ {l : List ℕ} {a b : Block} {A B : Series} (pos_l : (k : ℕ) → k < 4 → 1 ≤ at l k) (s : Sits a.lengths a)
    (t : Sits b.lengths b) (p : Is l a A) (q : Is l b B) where
  pub multiplied-is : Fits l A B → Is l (multiplied l a b) (times A B)
  unfolding multiplied
  multiplied-is r =
      decide (is_zero a || is_zero b)
      (λ e. rw e (zero_is ((zero-way pos_l s t p q) e)))
      (λ e. rw e (product_is 1 (cut-sits l a pos_l s.lo) (cut-sits l b pos_l t.lo) (cut-is p) (cut-is q) r))
