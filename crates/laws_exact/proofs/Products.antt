-- What rests on laws of specs/ (Products).
use Rattle.std.specs.Prelude.{◌≡◌, List, ℕ, ◌*◌, ◌^◌, ◌≤◌, length}
use Rattle.lists.specs.Four.{at}
use Rattle.model.specs.declared.Family.TheVariants.{Product}
use Rattle.model.specs.Header.{stored}
use Rattle.model.specs.Announced.{announced, paired}
use Rattle.model.specs.Poly.{Poly, block_of, coefficient_at}
use Rattle.model.specs.Product.{product_poly}
use Rattle.model_textbook.specs.Textbook.{Series, weight, times}
use Rattle.laws_whole.specs.Whole.{Whole}
use Rattle.shape_words.specs.Rules.{Regular}
use Rattle.shape_words.specs.Lengths.{Inside}
use Rattle.shape.specs.Limits.{min_limit-pos}
use Rattle.laws_keeps.specs.Keeps.{limits_of}
use Rattle.laws_exact.specs.Wholes.{Is}
use Rattle.laws_exact.proofs.Multiplied.{multiplied-is}
use Rattle.laws_exact.specs.Products.{own-sits, room}

-- Only what the cut leaves has to be whole, and |A| and |B| are of that.
module _ (p q : Poly) (g : Regular p.head) (h : Regular q.head) (s : length p.coeffs ≡ stored p.head) (t : length q.coeffs ≡ stored q.head)
    {A B : Series} (u : Is (limits_of p q) (block_of p) A) (v : Is (limits_of p q) (block_of q) B)
    (bound : weight (limits_of p q) A * weight (limits_of p q) B ≤ 2 ^ 53) where
  pub product-exact-cut : (k : List ℕ) → length k ≡ 4 → Inside (announced Product p.head q.head).limits k
      → Whole (coefficient_at (block_of (product_poly p q)) k) (times A B k)
  unfolding product_poly announced paired
  product-exact-cut = (multiplied-is (min_limit-pos p.head q.head g.rules h.rules) (own-sits p g s) (own-sits q h t) u v (room p q g h s t u v bound)).at
