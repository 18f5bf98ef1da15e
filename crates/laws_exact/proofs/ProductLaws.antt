-- What rests on laws of specs/ (Products).
use Rattle.std.specs.Prelude.{◌≡◌, true, List, ℕ, ◌*◌, ◌^◌, ◌≤◌, length, ℤ}
use Rattle.std.proofs.Math.Path.{refl}
use Rattle.std.specs.Float.Ieee.{eq}
use Rattle.lists.specs.Four.{at}
use Rattle.model.specs.declared.Family.TheVariants.{Product}
use Rattle.model.specs.Header.{stored}
use Rattle.model.specs.Announced.{announced, paired}
use Rattle.model.specs.Poly.{Poly, block_of, coefficient_at, cut}
use Rattle.model.specs.Product.{product_poly}
use Rattle.model_textbook.specs.Textbook.{Series, weight, times}
use Rattle.laws_whole.specs.Whole.{Whole}
use Rattle.laws_whole.specs.Compare.{whole-eq}
use Rattle.shape_words.specs.Rules.{Regular}
use Rattle.shape_words.specs.Lengths.{Inside}
use Rattle.laws_keeps.specs.Keeps.{limits_of, left-sits, right-sits}
use Rattle.laws_exact.specs.Sums.{series_in, weight_in}
use Rattle.laws_exact.specs.Generals.{general-is}
use Rattle.laws_exact.specs.Wholes.{Wholes, Is, wholes-is, cut-is}
use Rattle.laws_exact.proofs.Products.{product-exact-cut}
use Rattle.laws_exact.specs.Products.{bound-cut, general_block, room}

-- Only what the cut leaves has to be whole, and |A| and |B| are of that.
module _ (p q : Poly) (g : Regular p.head) (h : Regular q.head) (s : length p.coeffs ≡ stored p.head) (t : length q.coeffs ≡ stored q.head)
    {A B : Series} (u : Is (limits_of p q) (block_of p) A) (v : Is (limits_of p q) (block_of q) B)
    (bound : weight (limits_of p q) A * weight (limits_of p q) B ≤ 2 ^ 53) where
  -- all ways agree as numbers: whichever was taken, the coefficient equals that of the general product of the cut
  -- operands
  pub ways_agree : (k : List ℕ) → length k ≡ 4 → Inside (announced Product p.head q.head).limits k
      → eq (coefficient_at (block_of (product_poly p q)) k)
      (coefficient_at (general_block (limits_of p q) (cut (limits_of p q) (block_of p)) (cut (limits_of p q) (block_of q)))
      k) ≡ true
  unfolding announced paired
  ways_agree k f i =
      (whole-eq ((product-exact-cut p q g h s t u v bound) k f i) ((general-is (left-sits p q g h) (right-sits p q g h) (cut-is u) (cut-is
      v) (room p q g h s t u v bound)).at k f i)).1 refl

-- so too where every coefficient is whole, |A| and |B| of the operands as they are stored
module _ (p q : Poly) (g : Regular p.head) (h : Regular q.head) (a b : ℕ → ℤ) (u : Wholes (block_of p) a) (v : Wholes (block_of q) b)
    (bound : weight_in p a * weight_in q b ≤ 2 ^ 53) where
  pub product-exact : (k : List ℕ) → length k ≡ 4 → Inside (announced Product p.head q.head).limits k
      → Whole (coefficient_at (block_of (product_poly p q)) k) (times (series_in p a) (series_in q b) k)
  product-exact = product-exact-cut p q g h u.full v.full (wholes-is u (limits_of p q)) (wholes-is v (limits_of p q)) (bound-cut p q g h a b u v bound)
