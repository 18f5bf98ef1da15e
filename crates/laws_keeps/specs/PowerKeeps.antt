-- What `pow` owes of its header (document 01, 'Announced limits and lengths', power): 0 gives no variables, else the
-- limits are unchanged and no length is above min(L, e(a-1)+1), whichever way each product of the squarings takes.
use Rattle.std.specs.Prelude.{◌≡◌, refl, cond, List, leb, eqb, length}
use Rattle.std.proofs.Common.{ap, ◌∙◌, div-add-mod', eqb-true}
use Prim.Native.Nat.{ℕ, zero, suc, ◌+◌, ◌-◌, ◌*◌, ◌/◌, ◌%◌, ◌≤◌, ◌<◌, min}
use Rattle.std.proofs.Math.Nat.{le_refl, le_trans}
use native.Mathlib.Omega.{arith}
use Rattle.lists.specs.Test.{decide, of-both}
use Rattle.lists.specs.Four.{at, at-four}
use Rattle.model.specs.declared.Family.TheVariants.{Power}
use Rattle.model.specs.Header.{limit, len, stored, no_header}
use Rattle.model.specs.Announced.{announced, single}
use Rattle.model.specs.Poly.{Poly, Block, block_of, poly_of, cut}
use Rattle.model.specs.Readings.{one_f}
use Rattle.model.specs.Product.{constant_block, multiplied}
use Rattle.model.specs.Power.{squared, power_poly}
use Rattle.shape_words.specs.Rules.{Regular, ruled-at}
use Rattle.shape.specs.Announced.{single-regular, single-limits}
use Rattle.shape.specs.Keeps.{Keeps, none-keeps}
use Rattle.shape.specs.Cut.{cut_at}
use Rattle.laws_keeps.specs.Sits.{Sits}
use Rattle.laws_keeps.specs.Running.{Most, most-more, constant-most, most-keeps}

-- the exponent's last bit and the rest of it, on y
pub halves : (e y : ℕ) → (e % 2) * y + (e / 2) * (y + y) ≡ e * y
halves e y = (let d : (e % 2) * y + (e / 2) * (y + y) ≡ (e / 2 * 2 + e % 2) * y = omega arith in d) ∙ ap (λ (x : ℕ). x * y) (div-add-mod' e 2)

module _ (e : ℕ) (p : Poly) (g : Regular p.head) (full : length p.coeffs ≡ stored p.head) where
  pub own : Sits p.head.limits (block_of p)
  own = record { ns = g.ns; lo = λ k h. (ruled-at g.rules k h).pos; hi = λ k h. (ruled-at g.rules k h).fit; full = full }

  -- the limits are unchanged
  pub limits-same : (single (Power e) p.head).limits ≡ p.head.limits
  limits-same = single-limits (Power e) g (λ k. refl)

  -- a copy
  pub once : e ≡ 1 → Keeps (single (Power e) p.head) p
  unfolding single
  once o = record {
    regular = g;
    under = record {
      vars = refl;
      limits = g.ls;
      most =
          λ k h. rw (at-four (λ k. min (limit p.head k) (e * (len p.head k - 1) + 1)) k h, o)
          (omega (arith, (ruled-at g.rules k h).fit, (ruled-at g.rules k h).pos));
      cap = refl;
    };
    full = full;
  }
