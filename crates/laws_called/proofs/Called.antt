-- What rests on laws of specs/ (Called).
use Rattle.std.specs.Prelude.{Ok, ◌≡◌, List, ℕ, ◌+◌, ◌-◌, ◌*◌, ◌^◌, ◌≤◌, max, length, ℤ, nat_abs, Float}
use Rattle.std.proofs.Common.{arith}
use Rattle.std.proofs.Math.Bool.{true, false}
use Rattle.model.specs.declared.Refusal.{Refusal}
use Rattle.model.specs.declared.Family.{Family}
use Rattle.model.specs.declared.Family.TheVariants.{Sum, Product, Quotient, Shift, Substitution}
use Rattle.model.specs.Header.{len}
use Rattle.model.specs.Word.{header_of}
use Rattle.model.specs.Gates.{pair_gate, announced_pair, announced_one}
use Rattle.model.specs.Poly.{Poly, block_of, held}
use Rattle.model.specs.Answers.{answered, out_after}
use Rattle.model.specs.Add.{combined, sum_answer, sum_out}
use Rattle.model.specs.Product.{product_poly, product_answer, product_out}
use Rattle.model.specs.Quotient.{quotient_poly, quotient_answer, quotient_out}
use Rattle.model.specs.Shifts.{shift_gate, shift_down_poly, shift_down_answer, shift_down_out}
use Rattle.model.specs.Substitute.{substitute_poly, substitute_answer, substitute_out}
use Rattle.model_textbook.specs.Textbook.{Series, weight, origin, plus, less, times, quotient, substitute, shifted}
use Rattle.shape.specs.Keeps.{Keeps}
use Rattle.gates.specs.Gate.{pair-ready, in-ready}
use Rattle.laws_keeps.specs.Keeps.{combined-keeps}
use Rattle.laws_keeps.proofs.ProductKeeps.{product-keeps}
use Rattle.laws_keeps.specs.QuotientKeeps.{quotient-keeps}
use Rattle.laws_keeps.specs.ShiftKeeps.{shift_down-keeps}
use Rattle.laws_keeps.proofs.SubstituteKeeps.{substitute-keeps}
use Rattle.laws_exact.specs.Wholes.{Is}
use Rattle.laws_exact.proofs.Sums.{sum-exact-cut, difference-exact-cut}
use Rattle.laws_exact.proofs.Products.{product-exact-cut}
use Rattle.laws_exact_quotient.proofs.Quotients.{quotient-exact-cut}
use Rattle.laws_exact_shift.specs.Shifted.{shift_down-exact}
use Rattle.laws_exact_substitution.proofs.Substitutes.{substitute-exact}
use Rattle.laws_called.specs.Held.{AllWhole, WholeUnder, series_under, weight_of, held-regular, held-full, held-wholes, held-is}
use Rattle.laws_called.specs.Done.{Holds, not_refused}
use Rattle.laws_called.proofs.Done.{holds}
use Rattle.laws_called.specs.Called.{Operands, smaller}

module _ (w : ℕ) (x : List Float) (u : ℕ) (y out scratch : List Float) where
  abbrev p : Poly
  p = held w x

  abbrev q : Poly
  q = held u y

  abbrev gate_of : Family → Refusal
  gate_of f = pair_gate f w (length x) u (length y) (length out) (length scratch)

  pub pair-holds : (f : Family) (z : Poly) {r : ℕ} {Z : Series}
      → (Operands p q → Keeps (announced_pair f w u) z × Is (announced_pair f w u).limits (block_of z) Z)
      → answered (gate_of f) z ≡ Ok r → Holds (announced_pair f w u) r (out_after (gate_of f) (announced_pair f w u) z out) Z
  pair-holds f z law done =
      let t = pair-ready f w (length x) u (length y) (length out) (length scratch) (not_refused (gate_of f) z done) in
      let o = law (record {
        left = held-regular w x t.word_a;
        right = held-regular u y t.word_b;
        full_left = held-full w x t.full_a;
        full_right = held-full u y t.full_b;
      }) in
      holds (gate_of f) z out done t.announced o.0 o.1

  module _ (a b : ℕ → ℤ) where
    abbrev A : Series
    A = series_under w a

    abbrev B : Series
    B = series_under u b

    module _ (s : WholeUnder (smaller w u) w x a) (t : WholeUnder (smaller w u) u y b) where
      module _ (bound : weight (smaller w u) A + weight (smaller w u) B ≤ 2 ^ 53) where
        pub add-exact : {r : ℕ} → sum_answer false w x u y out scratch ≡ Ok r
            → Holds (announced_pair Sum w u) r (sum_out false w x u y out scratch) (plus A B)
        unfolding sum_answer sum_out
        add-exact = pair-holds Sum (combined false p q) (λ o. (
          combined-keeps p q o.left o.right false,
          record { at = sum-exact-cut p q o.left o.right (held-is s) (held-is t) bound },
        ))

        pub subtract-exact : {r : ℕ} → sum_answer true w x u y out scratch ≡ Ok r
            → Holds (announced_pair Sum w u) r (sum_out true w x u y out scratch) (less A B)
        unfolding sum_answer sum_out
        subtract-exact = pair-holds Sum (combined true p q) (λ o. (
          combined-keeps p q o.left o.right true,
          record { at = difference-exact-cut p q o.left o.right (held-is s) (held-is t) bound },
        ))

      pub multiply-exact : {r : ℕ} → weight (smaller w u) A * weight (smaller w u) B ≤ 2 ^ 53 → product_answer w x u y out scratch ≡ Ok r
          → Holds (announced_pair Product w u) r (product_out w x u y out scratch) (times A B)
      unfolding product_answer product_out
      multiply-exact bound = pair-holds Product (product_poly p q) (λ o. (
        product-keeps p q o.left o.right,
        record { at = product-exact-cut p q o.left o.right o.full_left o.full_right (held-is s) (held-is t) bound },
      ))

      -- the divisor's constant 1 or -1
      pub divide-exact : {r : ℕ} → nat_abs (B origin) ≡ 1 → weight (smaller w u) (quotient A B) * weight (smaller w u) B ≤ 2 ^ 53
          → quotient_answer w x u y out scratch ≡ Ok r
          → Holds (announced_pair Quotient w u) r (quotient_out w x u y out scratch) (quotient A B)
      unfolding quotient_answer quotient_out
      divide-exact unit bound = pair-holds Quotient (quotient_poly p q) (λ o. (
        quotient-keeps p q o.left o.right,
        record { at = quotient-exact-cut p q o.left o.right o.full_left o.full_right (held-is s) (held-is t) unit bound },
      ))

    -- B for the variable v: n the uncut length of v, 1 where the polynomial lacks it
    pub subst-exact : (v : ℕ) {r : ℕ} → let n = max 1 (len (header_of w) v) in
        AllWhole w x a → AllWhole u y b → max 1 (weight_of w a) * max 1 (weight_of u b) ^ (n - 1) ≤ 2 ^ 53 → substitute_answer v w x u y out scratch ≡ Ok r
        → Holds (announced_pair (Substitution v) w u) r (substitute_out v w x u y out scratch) (substitute v n A B)
    unfolding substitute_answer substitute_out
    subst-exact v s t bound = pair-holds (Substitution v) (substitute_poly v p q) (λ o. (
      substitute-keeps v p q o.left o.right o.full_left,
      record { at = substitute-exact v p q o.left o.right a b (held-wholes s o.full_left) (held-wholes t o.full_right) bound },
    ))

-- by n in the variable v
pub shift-exact : (w : ℕ) (x : List Float) (v n : ℕ) (out : List Float) {r : ℕ} {a : ℕ → ℤ} → AllWhole w x a → weight_of w a ≤ 2 ^ 53
    → shift_down_answer w x v n out ≡ Ok r → Holds (announced_one (Shift v n) w) r (shift_down_out w x v n out) (shifted v n (series_under w a))
unfolding shift_down_answer shift_down_out
shift-exact w x v n out {a = a} s bound done =
    let p = shift_down_poly v n (held w x) in
    let t = in-ready (Shift v n) v n w (length x) (length out) (not_refused (shift_gate w x v n out) p done) in
    let g = held-regular w x t.one.word in
    holds (shift_gate w x v n out) p out done t.one.announced (shift_down-keeps v n (held w x) g)
    (record {
      at = λ k f i.
          shift_down-exact v n (held w x) g (omega (arith, t.known, g.rules.few)) a (held-wholes s (held-full w x t.one.full)) bound k f;
    })
