-- A value that runs through several products and sums under the limits l, as in `pow` and in Horner's rule (document
-- 01, port order 7): it sits under l, and no length is above x. A product adds the lengths less 1; cut at every step,
-- it never passes l.
use Rattle.std.specs.Prelude.{ℕ, ◌+◌, ◌≤◌, ◌<◌, min, false, ◌||◌, List, Float}
use Rattle.std.proofs.Common.{le_trans, arith}
use Rattle.lists.specs.Test.{of-both}
use Rattle.lists.specs.Four.{at, at-four}
use Rattle.model.specs.declared.Header.{Header}
use Rattle.model.specs.Header.{limit, len}
use Rattle.model.specs.Refusals.{zero_f}
use Rattle.model.specs.Poly.{Block, poly_of, cut}
use Rattle.model.specs.Limits.{sum_shape}
use Rattle.model.specs.Add.{joined_block}
use Rattle.model.specs.Product.{is_zero, constant_block, multiplied}
use Rattle.shape_words.specs.Rules.{Regular}
use Rattle.shape.specs.Keeps.{Keeps}
use Rattle.shape.specs.Cut.{cut_at}
use Rattle.laws_keeps.specs.Sits.{Sits, sits-more, cut-sits, sum_at_lem, max-at}
use Rattle.laws_keeps.specs.Keeps.{sits-keeps, joined-sits, joined-under}
use Rattle.laws_keeps.specs.ProductKeeps.{constant-sits, left-fits, shape-under}

pub record Most (l : List ℕ) (x : ℕ → ℕ) (b : Block) : Type 0 where
  pub sits : Sits l b
  pub most : (k : ℕ) → k < 4 → at b.lengths k ≤ x k

pub most-more : {l : List ℕ} {x y : ℕ → ℕ} {b : Block} → ((k : ℕ) → k < 4 → x k ≤ y k) → Most l x b → Most l y b
most-more h m = record { sits = m.sits; most = λ k g. le_trans (m.most k g) (h k g) }

pub constant-most : {l : List ℕ} {x : ℕ → ℕ} {b : Block} (c : Float) → Sits l b → ((k : ℕ) → k < 4 → 1 ≤ x k) → Most l x (constant_block c)
constant-most c s h = record { sits = constant-sits c s; most = λ k g. le_trans (omega (arith, at-four (λ k. 1) k g)) (h k g) }

pub joined-most : {l : List ℕ} {x : ℕ → ℕ} {a b : Block} → Most l x a → Most l x b → Most l x (joined_block false a b)
joined-most {a = a} {b = b} m n = record {
  sits = joined-under false m.sits n.sits;
  most = λ k h. le_trans ((joined-sits false m.sits n.sits).hi k h) (rw (max-at a.lengths b.lengths k h) (omega (arith, m.most k h, n.most k h)));
}

-- a running value under the limits and the lengths of a header
pub most-keeps : {h : Header} {x : ℕ → ℕ} {b : Block} → Regular h → Most h.limits x b
    → ((k : ℕ) → k < 4 → min (limit h k) (x k) ≤ len h k) → Keeps h (poly_of h b)
most-keeps r m e =
    let s = m.sits in
    sits-keeps r (record { ns = s.ns; lo = s.lo; hi = λ k h. le_trans (omega (arith, s.hi k h, m.most k h)) (e k h); full = s.full })
