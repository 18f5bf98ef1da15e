-- Document 01, 'Where the result is exact', in the caller's terms: whole numbers in the lent buffers within the bounds,
-- and an answer that is no refusal; then the number at each index of the result's buffer, under the word answered, is
-- the exact one, zero past the stored lengths. One law for each operation that the section names.
-- Of sum, difference, product and quotient only what the cut to the smaller limits leaves has to be whole, and |A| and
-- |B| are of that; where everything is whole and the bound is on |A| and |B| as they are stored, `all_under` and
-- `weight-cut` lead here.
use Rattle.std.specs.Prelude.{Ok, ◌≡◌, refl, Bool, List, ℕ, ◌+◌, ◌-◌, ◌*◌, ◌^◌, ◌≤◌, max, length, ℤ, nat_abs, Float}
use Rattle.std.proofs.Common.{ap, arith}
use Rattle.std.proofs.Math.Bool.{true, false}
use Rattle.model.specs.declared.Refusal.{Refusal}
use Rattle.model.specs.declared.Family.{Family}
use Rattle.model.specs.declared.Family.TheVariants.{Sum, Product, Quotient, Shift, Substitution}
use Rattle.model.specs.Header.{len, stored}
use Rattle.model.specs.Limits.{min_degrees_p1}
use Rattle.model.specs.Word.{header_of, good_word}
use Rattle.model.specs.Gates.{pair_gate, announced_pair, announced_one}
use Rattle.model.specs.Poly.{Poly, block_of, held}
use Rattle.model.specs.Answers.{answered, out_after}
use Rattle.model.specs.Add.{combined, sum_answer, sum_out}
use Rattle.model.specs.Product.{product_poly, product_answer, product_out}
use Rattle.model.specs.Quotient.{quotient_poly, quotient_answer, quotient_out}
use Rattle.model.specs.Shifts.{shift_gate, shift_down_poly, shift_down_answer, shift_down_out}
use Rattle.model.specs.Substitute.{substitute_poly, substitute_answer, substitute_out}
use Rattle.model_textbook.specs.Textbook.{Series, weight, origin, plus, less, times, quotient, substitute, shifted}
use Rattle.shape_words.specs.Rules.{Regular}
use Rattle.shape_words.specs.Words.{good_word_lem}
use Rattle.shape.specs.Keeps.{Keeps}
use Rattle.gates.specs.Gate.{pair-ready, in-ready}
use Rattle.laws_keeps.specs.Keeps.{combined-keeps}
use Rattle.laws_keeps.proofs.ProductKeeps.{product-keeps}
use Rattle.laws_keeps.specs.QuotientKeeps.{quotient-keeps}
use Rattle.laws_keeps.specs.ShiftKeeps.{shift_down-keeps}
use Rattle.laws_keeps.proofs.SubstituteKeeps.{substitute-keeps}
use Rattle.laws_exact.specs.Weights.{weight_any}
use Rattle.laws_exact.specs.Wholes.{Is}
use Rattle.laws_exact.proofs.Sums.{sum-exact-cut, difference-exact-cut}
use Rattle.laws_exact.proofs.Products.{product-exact-cut}
use Rattle.laws_exact_quotient.proofs.Quotients.{quotient-exact-cut}
use Rattle.laws_exact_shift.specs.Shifted.{shift_down-exact}
use Rattle.laws_exact_substitution.proofs.Substitutes.{substitute-exact}
use Rattle.laws_called.specs.Held.{AllWhole, WholeUnder, series_under, weight_of, held-regular, held-full, held-wholes, held-is}
use Rattle.laws_called.specs.Done.{Holds, not_refused}

-- the smaller limits of two operands
abbrev pub smaller : ℕ → ℕ → List ℕ
smaller w u = min_degrees_p1 (header_of w) (header_of u)

-- a cut leaves no more of |A|
pub weight-cut : (w u v : ℕ) → good_word v ≡ true → (a : ℕ → ℤ) → weight (smaller w u) (series_under v a) ≤ weight_of v a
unfolding min_degrees_p1
weight-cut w u v g a = weight_any (header_of v).lengths (ap length (good_word_lem v g).regular.ns) a (smaller w u) refl

-- ---- two operands

-- what a gate that let a call pass says of them
pub record Operands (p q : Poly) : Type 0 where
  pub left : Regular p.head
  pub right : Regular q.head
  pub full_left : length p.coeffs ≡ stored p.head
  pub full_right : length q.coeffs ≡ stored q.head

module _ (w : ℕ) (x : List Float) (u : ℕ) (y out scratch : List Float) where
  abbrev p : Poly
  p = held w x

  abbrev q : Poly
  q = held u y

  abbrev gate_of : Family → Refusal
  gate_of f = pair_gate f w (length x) u (length y) (length out) (length scratch)

  module _ (a b : ℕ → ℤ) where
    abbrev A : Series
    A = series_under w a

    abbrev B : Series
    B = series_under u b

-- ---- one operand
