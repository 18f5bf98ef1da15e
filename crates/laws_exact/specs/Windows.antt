-- Laws of sums and products of series, by the first variable (they belong beside crate whole's SeriesLaws): a sum over
-- a range of which only a window is not zero, the product at an index as a sum over its first number, and the product
-- at the constant's index.
use Rattle.std.specs.Prelude.{◌≡◌, ℕ, zero, suc, ◌+◌, ◌-◌, ◌*◌, ◌≤◌, ◌<◌, length, pos, nat_abs, ◌*ℤ◌}
use Rattle.std.proofs.Math.Path.{refl, ap}
use Rattle.std.proofs.Common.{sym, ap₂, ◌∙◌, suc-le-suc, zero-lt-suc}
use mathlib.Core.List.{List, [], ◌∷◌}
use Rattle.std.proofs.Math.Nat.{suc_inj}
use native.Mathlib.Omega.{arith}
use Rattle.lists.specs.Four.{at, each, four_same}
use Rattle.model_textbook.specs.Sum.{Adding, sum, sum_n, sum_z, add_z}
use Rattle.model_textbook.specs.Box.{box, up_to, index_minus, degree}
use Rattle.model_textbook.specs.Textbook.{Series, times, origin}
use Rattle.laws_whole.specs.SumLaws.{sum-split, sum_zeros, sum_one, plus_nil}
use Rattle.laws_whole.specs.Index.{Within}
use Rattle.laws_whole.specs.IndexLaws.{within-up_to, four_at_lem}
use Rattle.laws_whole.specs.BoxLaws.{box-zeros}
use Rattle.laws_whole.specs.PlaceLaws.{box_place}
use Rattle.laws_whole.specs.SeriesSizes.{sizes}

module _ {A : Type 0} (M : Adding A) where
  -- m terms from a on, the others zero
  pub sum_window : (f : ℕ → A) (n a m : ℕ) → a + m ≤ n → ((j : ℕ) → j < n → (a ≤ j → j < a + m → ⊥) → f j ≡ M.nil) → sum M f n 0 ≡ sum M f m a
  sum_window f n a m h o =
      let r = n - (a + m) in
      let e : n ≡ a + (m + r) = omega arith in
      ap (λ (k : ℕ). sum M f k 0) e
      ∙ sum-split M f a (m + r) 0
      ∙ ap (λ (x : A). M.plus x (sum M f (m + r) (0 + a))) (sum_zeros M f a 0 (λ j p q. o j (omega arith) (λ x y. omega arith)))
      ∙ M.nil_plus (sum M f (m + r) (0 + a))
      ∙ (let i : 0 + a ≡ a = omega arith in ap (sum M f (m + r)) i)
      ∙ sum-split M f m r a
      ∙ ap (M.plus (sum M f m a)) (sum_zeros M f r (a + m) (λ j p q. o j (omega arith) (λ x y. omega arith)))
      ∙ plus_nil M (sum M f m a)

  -- of the box up to the constant's index one term
  pub box_flat : (f : List ℕ → A) (ks : List ℕ) → degree ks ≡ 0 → box M (up_to ks) f ≡ f ks
  unfolding box up_to degree
  box_flat f [] h = refl
  box_flat f (k ∷ ks) h =
      let e : k ≡ 0 = omega arith in
      let d : degree ks ≡ 0 = omega arith in
      ap (λ (n : ℕ). sum M (λ i. box M (up_to ks) (λ j. f (i ∷ j))) (suc n) 0) e
      ∙ sum_one M (λ i. box M (up_to ks) (λ j. f (i ∷ j))) 0
      ∙ box_flat (λ j. f (0 ∷ j)) ks d
      ∙ ap (λ (n : ℕ). f (n ∷ ks)) (sym e)

-- ---- the constant's index

pub minus_flat : (ks js : List ℕ) → degree ks ≡ 0 → index_minus ks js ≡ ks
unfolding index_minus degree
minus_flat [] js h = refl
minus_flat (k ∷ ks) [] h = refl
minus_flat (k ∷ ks) (j ∷ js) h =
    let e : k - j ≡ k = omega arith in
    ap₂ ◌∷◌ e (minus_flat ks js (omega arith))

pub place_flat : (ns ks : List ℕ) → degree ks ≡ 0 → box_place ns ks ≡ 0
unfolding box_place degree
place_flat [] ks h = refl
place_flat (n ∷ ns) [] h = refl
place_flat (n ∷ ns) (k ∷ ks) h =
    let e : k ≡ 0 = omega arith in
    let d : box_place ns ks ≡ 0 = place_flat ns ks (omega arith) in
    rw (e, d) (omega arith)

-- in four variables it is the origin
pub degree-origin : (k : List ℕ) → length k ≡ 4 → degree k ≡ 0 → k ≡ origin
unfolding degree
degree-origin k f h =
    let e : at k 0 + (at k 1 + (at k 2 + (at k 3 + 0))) ≡ 0 = ap degree (sym (four_at_lem k f)) ∙ h in
    four_at_lem k f ∙ four_same (at k) (λ v. 0) (each (λ v. at k v ≡ 0) (omega arith) (omega arith) (omega arith) (omega arith))

-- ---- indices, number by number

pub within-at : {j k : List ℕ} → Within j k → (v : ℕ) → at j v ≤ at k v
within-at Within.none v = omega arith
within-at (Within.more l u) zero = l
within-at (Within.more l u) (suc v) = within-at u v

pub at-within : (j k : List ℕ) → length j ≡ length k → ((v : ℕ) → v < length k → at j v ≤ at k v) → Within j k
at-within [] [] e h = Within.none
at-within [] (k ∷ ks) e h = absurd (omega (arith, e))
at-within (j ∷ js) [] e h = absurd (omega (arith, e))
at-within (j ∷ js) (k ∷ ks) e h = Within.more (h 0 (zero-lt-suc _)) (at-within js ks (suc_inj e) (λ v l. h (suc v) (suc-le-suc l)))

pub minus-at : (k j : List ℕ) (v : ℕ) → at (index_minus k j) v ≡ at k v - at j v
unfolding index_minus
minus-at [] j v = omega arith
minus-at (k ∷ ks) [] v = omega arith
minus-at (k ∷ ks) (j ∷ js) zero = refl
minus-at (k ∷ ks) (j ∷ js) (suc v) = minus-at ks js v

-- ---- the product, by the first variable

pub times_none : (P Q : Series) (ks : List ℕ) → ((j : List ℕ) → Within j ks → P j *ℤ Q (index_minus ks j) ≡ pos 0) → times P Q ks ≡ pos 0
unfolding times
times_none P Q ks h = box-zeros add_z _ (up_to ks) (λ j u. h j (within-up_to j ks u))

pub times-nil : (P Q : Series) → times P Q [] ≡ P [] *ℤ Q []
unfolding times box up_to index_minus
times-nil P Q = refl

pub sizes-nil : (P Q : Series) → sizes P Q [] ≡ nat_abs (P []) * nat_abs (Q [])
unfolding sizes box up_to index_minus
sizes-nil P Q = refl

pub times-row : (P Q : Series) (k : ℕ) (ks : List ℕ) → times P Q (k ∷ ks) ≡ sum_z (λ i. times (λ j. P (i ∷ j)) (λ j. Q ((k - i) ∷ j)) ks) (suc k) 0
unfolding times box up_to index_minus
times-row P Q k ks = refl

pub sizes-row : (P Q : Series) (k : ℕ) (ks : List ℕ) → sizes P Q (k ∷ ks) ≡ sum_n (λ i. sizes (λ j. P (i ∷ j)) (λ j. Q ((k - i) ∷ j)) ks) (suc k) 0
unfolding sizes box up_to index_minus
sizes-row P Q k ks = refl
