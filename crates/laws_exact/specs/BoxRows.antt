-- Sums over a box by the rows of one variable v (they belong beside crate whole's BoxLaws): an index with each number
-- of v in turn. And the rows of `shift_down` (document 01, port order 7): the first n + 1 in one, then the rows after
-- them, sum to what they summed to.
use Rattle.std.specs.Prelude.{◌≡◌, length, set}
use Rattle.std.proofs.Math.Path.{sym}
use Rattle.std.proofs.Common.{ap, ap₂, ◌∙◌, le_of_suc-le-suc, arith}
use mathlib.Core.List.{List, [], ◌∷◌}
use Prim.Native.Nat.{ℕ, zero, suc, ◌+◌, ◌-◌, ◌≤◌, ◌<◌, max}
use Rattle.lists.specs.Four.{at}
use Rattle.model_textbook.specs.Sum.{Adding, sum, add_n, sum_n}
use Rattle.model_textbook.specs.Box.{box, box_n}
use Rattle.laws_whole.specs.SumLaws.{sum_one, sum_same, sum_first, sum-split, sum-shift, sum_narrow}
use Rattle.laws_whole.specs.Index.{InBox}
use Rattle.laws_whole.specs.BoxLaws.{sum-box}
use Rattle.laws_whole.specs.BoxSizes.{box_n-term}

module _ {A : Type 0} (M : Adding A) where
  pub box-rows : (f : List ℕ → A) (ns : List ℕ) (v : ℕ) → v < length ns → box M ns f ≡ box M (set ns v 1) (λ k. sum M (λ j. f (set k v j)) (at ns v) 0)
  unfolding box
  box-rows f [] v h = absurd (omega (arith, h))
  box-rows f (n ∷ ns) zero h =
      sum-box M (λ i j. f (i ∷ j)) n 0 ns
      ∙ sym (sum_one M (λ i. box M ns (λ j. sum M (λ x. f (x ∷ j)) n 0)) 0)
  box-rows f (n ∷ ns) (suc v) h = sum_same M _ _ n 0 (λ i p q. box-rows (λ j. f (i ∷ j)) ns v (le_of_suc-le-suc h))

  -- s the rows after the shift by n, r the rows before it, of which the first p may be other than zero
  pub gathered : (r s : ℕ → A) (n p : ℕ) → s 0 ≡ sum M r (suc n) 0 → ((j : ℕ) → 1 ≤ j → s j ≡ r (n + j))
      → ((j : ℕ) → p ≤ j → r j ≡ M.nil) → sum M s (max 1 (p - n)) 0 ≡ sum M r p 0
  gathered r s n p first after past =
      let m : ℕ = max 1 (p - n) - 1 in
      let e : max 1 (p - n) ≡ suc m = omega arith in
      let o : n + 1 ≡ 0 + suc n = omega arith in
      ap (λ (x : ℕ). sum M s x 0) e
      ∙ sum_first M s m 0
      ∙ ap₂ M.plus first (sum_same M s (λ j. r (n + j)) m 1 (λ j x y. after j x) ∙ sum-shift M r m n 1 ∙ ap (sum M r m) o)
      ∙ sym (sum-split M r (suc n) m 0)
      ∙ sum_narrow M r p (suc n + m) (omega arith) (λ j x y. past j x)

-- one row is the box at most
pub row-part : (f : List ℕ → ℕ) (ns : List ℕ) (v : ℕ) → v < length ns → {k : List ℕ} → InBox k (set ns v 1) → sum_n (λ j. f (set k v j)) (at
    ns v) 0 ≤ box_n ns f
row-part f ns v h u = rw (box-rows add_n f ns v h) (box_n-term (λ k. sum_n (λ j. f (set k v j)) (at ns v) 0) u)
