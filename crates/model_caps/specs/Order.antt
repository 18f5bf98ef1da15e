-- REFERENCE 13.6. Document 02, W11: 'a planner drags rooms into another order and expects the same department'. A
-- polynomial with its cap, the sum and the product of two of them under the smaller cap present (W10), and when two are
-- the same. No header may have a cap yet: it stands beside the polynomial.
use Rattle.std.specs.Prelude.{◌≡◌, true, false, List, ℕ, length}
use Rattle.std.specs.Float.Ieee.{eq}
use Rattle.model.specs.Places.{inside}
use Rattle.model.specs.Poly.{Poly, poly, block_of, coefficient_at}
use Rattle.model.specs.Add.{combined}
use Rattle.model.specs.Product.{product_poly}
use Rattle.model.specs.Cap.{min_cap}
use Rattle.model_caps.specs.Cap.{capped_places}

-- cap 0: none
pub record Capped : Type 0 where
  pub value : Poly
  pub cap : ℕ

abbrev pub uncapped : Poly → Capped
uncapped p = record { value = p; cap = 0 }

-- header and limits stay, places at or past the cap are +0.0
abbrev pub under : ℕ → Poly → Poly
under c p = poly p.head (capped_places c p.head.lengths p.coeffs)

abbrev pub cap_of : Capped → Capped → ℕ
cap_of p q = min_cap p.cap q.cap

unfoldable pub sum : Capped → Capped → Capped
sum p q = record { value = under (cap_of p q) (combined false p.value q.value); cap = cap_of p q }

unfoldable pub product : Capped → Capped → Capped
product p q = record { value = under (cap_of p q) (product_poly p.value q.value); cap = cap_of p q }

-- 'Equality is of limits, cap and every coefficient under the limits, stored lengths aside': as numbers
pub record Same (p q : Capped) : Type 0 where
  pub vars : p.value.head.vars ≡ q.value.head.vars
  pub limits : p.value.head.limits ≡ q.value.head.limits
  pub cap : p.cap ≡ q.cap
  pub at : (k : List ℕ) → length k ≡ 4 → inside p.value.head.limits k ≡ true
      → eq (coefficient_at (block_of p.value) k) (coefficient_at (block_of q.value) k) ≡ true
