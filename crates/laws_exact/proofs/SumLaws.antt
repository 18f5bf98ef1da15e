-- What rests on laws of specs/ (Sums).
use Rattle.std.specs.Prelude.{◌≡◌, true, false, List, ℕ, ◌+◌, ◌^◌, ◌≤◌, length, ℤ}
use Rattle.model.specs.declared.Family.TheVariants.{Sum}
use Rattle.model.specs.Announced.{announced}
use Rattle.model.specs.Poly.{Poly, block_of, coefficient_at}
use Rattle.model.specs.Add.{combined}
use Rattle.model_textbook.specs.Textbook.{plus, less}
use Rattle.laws_whole.specs.Whole.{Whole}
use Rattle.shape_words.specs.Rules.{Regular}
use Rattle.shape_words.specs.Lengths.{Inside}
use Rattle.laws_keeps.specs.Keeps.{limits_of}
use Rattle.laws_exact.specs.Wholes.{Wholes, wholes-is}
use Rattle.laws_exact.proofs.Sums.{difference-exact-cut, sum-exact-cut}
use Rattle.laws_exact.specs.Sums.{bound-cut, series_in, weight_in}

-- so too where every coefficient is whole, |A| and |B| of the operands as they are stored
module _ (p q : Poly) (g : Regular p.head) (h : Regular q.head) (a b : ℕ → ℤ) (u : Wholes (block_of p) a) (v : Wholes (block_of q) b)
    (bound : weight_in p a + weight_in q b ≤ 2 ^ 53) where
  pub sum-exact : (k : List ℕ) → length k ≡ 4 → Inside (announced Sum p.head q.head).limits k
      → Whole (coefficient_at (block_of (combined false p q)) k) (plus (series_in p a) (series_in q b) k)
  sum-exact = sum-exact-cut p q g h (wholes-is u (limits_of p q)) (wholes-is v (limits_of p q)) (bound-cut p q g h a b u v bound)

  pub difference-exact : (k : List ℕ) → length k ≡ 4 → Inside (announced Sum p.head q.head).limits k
      → Whole (coefficient_at (block_of (combined true p q)) k) (less (series_in p a) (series_in q b) k)
  difference-exact = difference-exact-cut p q g h (wholes-is u (limits_of p q)) (wholes-is v (limits_of p q)) (bound-cut p q g h a b u v bound)
