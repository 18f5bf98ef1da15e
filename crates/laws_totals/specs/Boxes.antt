-- Sums over boxes of indices in four variables: a box past which all coefficients are zero may be any larger one.
use Rattle.std.specs.Prelude.{ℕ, zero, suc, ◌-◌, ◌≤◌, ◌<◌, List, [], ◌∷◌, ◌≡◌, refl, leb, length}
use Rattle.std.proofs.Common.{◌∙◌, arith, lit<, leb-true, leb-false}
use Rattle.std.proofs.Math.Nat.{suc_inj}
use Rattle.lists.specs.Four.{at, four, each, at-four}
use Rattle.lists.specs.Test.{decide}
use Rattle.model.specs.Header.{ones}
use Rattle.model_textbook.specs.Sum.{add_z}
use Rattle.model_textbook.specs.Box.{box, box_z, index_minus}
use Rattle.model_textbook.specs.Textbook.{Series, origin}
use Rattle.laws_whole.specs.Index.{InBox, Within}
use Rattle.laws_whole.specs.IndexLaws.{in-box-length}
use Rattle.laws_whole.specs.SumLaws.{sum_one}
use Rattle.laws_whole.specs.BoxLaws.{box_narrow}
use Rattle.laws_whole.specs.StoredLaws.{below_in-box}
use Rattle.laws_full.specs.Bounds.{Bounds}

-- an index lies in a box, or reaches its length in some variable
pub by-box : {P : Type 0} (n j : List ℕ) → length n ≡ 4 → length j ≡ 4 → (InBox j n → P) → ((w : ℕ) → w < 4 → at n w ≤ at j w → P) → P
by-box n j en ej f g =
    decide (leb (at n 0) (at j 0)) (λ t. g 0 (lit< tt) (leb-true _ _ t))
    (λ a. decide (leb (at n 1) (at j 1)) (λ t. g 1 (lit< tt) (leb-true _ _ t))
    (λ b. decide (leb (at n 2) (at j 2)) (λ t. g 2 (lit< tt) (leb-true _ _ t))
    (λ c. decide (leb (at n 3) (at j 3)) (λ t. g 3 (lit< tt) (leb-true _ _ t))
    (λ d. f (below_in-box n en j ej (each (λ v. at j v < at n v) (leb-false _ _ a) (leb-false _ _ b) (leb-false _ _ c) (leb-false _ _ d)))))))

pub places-within : (n r : List ℕ) → length n ≡ length r → ((v : ℕ) → v < length r → at n v ≤ at r v) → Within n r
places-within [] [] e h = Within.none
places-within [] (k ∷ r) e h = absurd (omega (arith, e))
places-within (k ∷ n) [] e h = absurd (omega (arith, e))
places-within (k ∷ n) (l ∷ r) e h = Within.more (h 0 (omega arith)) (places-within n r (suc_inj e) (λ v u. h (suc v) (omega arith)))

pub minus-at : (k j : List ℕ) → length j ≡ length k → (w : ℕ) → at (index_minus k j) w ≡ at k w - at j w
unfolding index_minus
minus-at [] [] e w = omega arith
minus-at [] (i ∷ j) e w = absurd (omega (arith, e))
minus-at (i ∷ k) [] e w = absurd (omega (arith, e))
minus-at (i ∷ k) (d ∷ j) e zero = refl
minus-at (i ∷ k) (d ∷ j) e (suc w) = minus-at k j (suc_inj e) w

module _ {A : Series} where
  -- the sum over a larger box
  pub wider : (n r : List ℕ) → length n ≡ 4 → length r ≡ 4 → Bounds (at n) A → ((w : ℕ) → w < 4 → at n w ≤ at r w) → box_z r A ≡ box_z n A
  wider n r en er b h =
      box_narrow add_z A (places-within n r (omega (arith, en, er)) (λ v l. h v (omega (arith, er)))) (λ j u o.
      by-box n j en (in-box-length u ∙ er) (λ i. absurd (o i)) (λ w l p. b.past w l j p))

-- the sum over one index
pub of_ones : (A : Series) → box_z ones A ≡ A origin
unfolding box
of_ones A =
    sum_one add_z (λ i. box_z (1 ∷ 1 ∷ 1 ∷ []) (λ j. A (i ∷ j))) 0
    ∙ (sum_one add_z (λ i. box_z (1 ∷ 1 ∷ []) (λ j. A (0 ∷ i ∷ j))) 0
    ∙ (sum_one add_z (λ i. box_z (1 ∷ []) (λ j. A (0 ∷ 0 ∷ i ∷ j))) 0
    ∙ sum_one add_z (λ i. A (0 ∷ 0 ∷ 0 ∷ i ∷ [])) 0))

-- four numbers given by variable
pub listed : (n : ℕ → ℕ) {A : Series} → Bounds n A → Bounds (at (four n)) A
listed n b = record { some = λ w l. rw (at-four n w l) (b.some w l); past = λ w l k p. b.past w l k (rw (at-four n w l) at p) }
