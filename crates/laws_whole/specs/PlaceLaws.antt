-- The values of a box stored in one list, last variable fastest: the sum over the box is the sum over the list.
use Rattle.std.specs.Prelude.{◌≡◌, ℕ, ◌+◌, ◌*◌, length}
use Rattle.std.proofs.Math.Path.{sym, ap}
use Rattle.std.proofs.Common.{ap₂, ◌∙◌, zero-mul, arith}
use mathlib.Core.List.{List, [], ◌∷◌}
use Rattle.model.specs.Header.{span, count}
use Rattle.model.specs.Places.{strides, offset, place}
use Rattle.model_textbook.specs.Sum.{Adding, sum}
use Rattle.model_textbook.specs.Box.{box}
use Rattle.laws_whole.specs.SumLaws.{sum_one, sum_same, sum_blocks}
use Rattle.laws_whole.specs.BoxLaws.{box-same}
use Rattle.laws_whole.specs.IndexLaws.{in-box-length, four_at_lem}

-- how many indices a box holds, and the place of one: for any number of variables, so that laws can go by one variable
-- after the other
unfoldable pub box_count : List ℕ → ℕ
box_count [] = 1
box_count (n ∷ ns) = n * box_count ns

unfoldable pub box_place : List ℕ → List ℕ → ℕ
box_place [] ks = 0
box_place (n ∷ ns) [] = 0
box_place (n ∷ ns) (k ∷ ks) = k * box_count ns + box_place ns ks

-- of four numbers they are the stored count and the place by strides
pub count_of-four : (n : List ℕ) → length n ≡ 4 → box_count n ≡ count n
unfolding box_count span
count_of-four n h = ap box_count (four_at_lem n h)

pub place_of-four : (n k : List ℕ) → length n ≡ 4 → length k ≡ 4 → box_place n k ≡ place n k
unfolding box_place box_count span strides offset
place_of-four n k h e = ap₂ box_place (four_at_lem n h) (four_at_lem k e) ∙ omega arith

module _ {A : Type 0} (M : Adding A) where
  pub box-places : (g : ℕ → A) (ns : List ℕ) → box M ns (λ k. g (box_place ns k)) ≡ sum M g (box_count ns) 0
  unfolding box box_place box_count
  box-places g [] = sym (sum_one M g 0)
  box-places g (n ∷ ns) =
      sum_same M _ _ n 0 (λ i p q. box-places (λ k. g (i * box_count ns + k)) ns)
      ∙ sum_blocks M g (box_count ns) n 0
      ∙ ap (sum M g (n * box_count ns)) (zero-mul (box_count ns))

  pub four-places : (g : ℕ → A) (n : List ℕ) → length n ≡ 4 → box M n (λ k. g (place n k)) ≡ sum M g (count n) 0
  four-places g n h =
      box-same M _ _ n (λ k u. ap g (sym (place_of-four n k h (in-box-length u ∙ h))))
      ∙ box-places g n
      ∙ ap (λ (m : ℕ). sum M g m 0) (count_of-four n h)
