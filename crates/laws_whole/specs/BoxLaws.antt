-- The laws of a sum over a box, of any operation: the laws of a range, variable by variable.
use Rattle.std.specs.Prelude.{◌≡◌}
use Rattle.std.proofs.Math.Path.{refl, sym, ap}
use Rattle.std.proofs.Common.{◌∙◌}
use mathlib.Core.List.{List, [], ◌∷◌}
use Prim.Native.Nat.{ℕ, suc, ◌+◌, ◌-◌, ◌<◌}
use native.Mathlib.Omega.{arith}
use Rattle.model_textbook.specs.Sum.{Adding, sum}
use Rattle.model_textbook.specs.Box.{box, up_to, index_plus, index_minus}
use Rattle.laws_whole.specs.SumLaws.{Additive, Through, sum_related, carried_lem, equal, zeros, sum_same, sum_narrow}
use Rattle.laws_whole.specs.SumLaws.{sum-only, sum-plus, sum_exchange, sum_reverse, sum_triangle}
use Rattle.laws_whole.specs.Index.{InBox, Within}

in-box-first : {i n : ℕ} {j ns : List ℕ} → InBox (i ∷ j) (n ∷ ns) → i < n
in-box-first (InBox.more l u) = l

in-box-rest : {i n : ℕ} {j ns : List ℕ} → InBox (i ∷ j) (n ∷ ns) → InBox j ns
in-box-rest (InBox.more l u) = u

-- ---- term by term

-- where all terms of a box have an additive relation, the sums have it
pub box_related : {A B : Type 0} {M : Adding A} {N : Adding B} {R : A → B → Type 0} → Additive M N R
    → (f : List ℕ → A) (g : List ℕ → B) (ns : List ℕ) → ((j : List ℕ) → InBox j ns → R (f j) (g j)) → R (box M ns f) (box N ns g)
unfolding box
box_related r f g [] h = h [] InBox.none
box_related r f g (n ∷ ns) h =
    sum_related r _ _ n 0 (λ i p q. box_related r (λ j. f (i ∷ j)) (λ j. g (i ∷ j)) ns (λ j u. h (i ∷ j) (InBox.more (omega arith) u)))

pub box-through : {A B : Type 0} {M : Adding A} {N : Adding B} {t : A → B} → Through M N t
    → (f : List ℕ → A) (ns : List ℕ) → t (box M ns f) ≡ box N ns (λ j. t (f j))
box-through {t = t} h f ns = box_related (carried_lem h) f (λ j. t (f j)) ns (λ j u. refl)

module _ {A : Type 0} (M : Adding A) where
  -- terms that agree on the box
  pub box-same : (f g : List ℕ → A) (ns : List ℕ) → ((j : List ℕ) → InBox j ns → f j ≡ g j) → box M ns f ≡ box M ns g
  box-same = box_related (equal M)

  -- all terms zero
  pub box-zeros : (f : List ℕ → A) (ns : List ℕ) → ((j : List ℕ) → InBox j ns → f j ≡ M.nil) → box M ns f ≡ M.nil
  box-zeros f = box_related (zeros M) f f

  -- ---- parts and other orders

  -- all terms zero but one
  pub box-only : (f : List ℕ → A) {e ns : List ℕ} → InBox e ns → ((j : List ℕ) → InBox j ns → (j ≡ e → ⊥) → f j ≡ M.nil) → box M ns f ≡ f e
  unfolding box
  box-only f InBox.none h = refl
  box-only f (InBox.more {i = i} {n = n} {j = e} {ns = ns} l u) h =
      sum-only M _ n 0 i (omega arith) (omega arith)
      (λ k p q w. box-zeros (λ j. f (k ∷ j)) ns (λ j v. h (k ∷ j) (InBox.more (omega arith) v) (λ s. w (cc))))
      ∙ box-only (λ j. f (i ∷ j)) u (λ j v w. h (i ∷ j) (InBox.more l v) (λ s. w (cc)))

  -- the sum of sums of two
  pub box-plus : (f g : List ℕ → A) (ns : List ℕ) → box M ns (λ j. M.plus (f j) (g j)) ≡ M.plus (box M ns f) (box M ns g)
  unfolding box
  box-plus f g [] = refl
  box-plus f g (n ∷ ns) =
      sum_same M _ _ n 0 (λ i p q. box-plus (λ j. f (i ∷ j)) (λ j. g (i ∷ j)) ns)
      ∙ sum-plus M (λ i. box M ns (λ j. f (i ∷ j))) (λ i. box M ns (λ j. g (i ∷ j))) n 0

  -- a range and a box exchanged
  pub sum-box : (f : ℕ → List ℕ → A) (n a : ℕ) (ns : List ℕ) → sum M (λ i. box M ns (f i)) n a ≡ box M ns (λ j. sum M (λ i. f i j) n a)
  unfolding box
  sum-box f n a [] = refl
  sum-box f n a (m ∷ ns) =
      sum_exchange M (λ i k. box M ns (λ j. f i (k ∷ j))) n a m 0
      ∙ sum_same M _ _ m 0 (λ k p q. sum-box (λ i j. f i (k ∷ j)) n a ns)

  -- two boxes exchanged
  pub box_exchange : (f : List ℕ → List ℕ → A) (ns ms : List ℕ) → box M ns (λ i. box M ms (f i)) ≡ box M ms (λ j. box M ns (λ i. f i j))
  unfolding box
  box_exchange f [] ms = refl
  box_exchange f (n ∷ ns) ms =
      sum_same M _ _ n 0 (λ k p q. box_exchange (λ i. f (k ∷ i)) ns ms)
      ∙ sum-box (λ k j. box M ns (λ i. f (k ∷ i) j)) n 0 ms

  -- j and k - j exchanged
  pub box_reverse : (f : List ℕ → A) (k : List ℕ) → box M (up_to k) f ≡ box M (up_to k) (λ j. f (index_minus k j))
  unfolding box up_to index_minus
  box_reverse f [] = refl
  box_reverse f (k ∷ ks) =
      sum_reverse M (λ i. box M (up_to ks) (λ j. f (i ∷ j))) (suc k)
      ∙ sum_same M _ _ (suc k) 0 (λ i p q.
      let e : suc k - suc i ≡ k - i = omega arith in
      ap (λ (z : ℕ). box M (up_to ks) (λ j. f (z ∷ j))) e ∙ box_reverse (λ j. f ((k - i) ∷ j)) ks)

  -- i ≤ j, j in the box, by j and by i
  pub box_triangle : (f : List ℕ → List ℕ → A) (ns : List ℕ)
      → box M ns (λ j. box M (up_to j) (λ i. f i j)) ≡ box M ns (λ i. box M (index_minus ns i) (λ d. f i (index_plus i d)))
  unfolding box up_to index_minus index_plus
  box_triangle f [] = refl
  box_triangle f (n ∷ ns) =
      let cell : ℕ → ℕ → A = λ i j. box M ns (λ js. box M (up_to js) (λ is. f (i ∷ is) (j ∷ js))) in
      sum_same M _ _ n 0 (λ j p q. sym (sum-box (λ i js. box M (up_to js) (λ is. f (i ∷ is) (j ∷ js))) (suc j) 0 ns))
      ∙ sum_triangle M cell n
      ∙ sum_same M _ _ n 0 (λ i p q.
      sum_same M _ _ (n - i) 0 (λ d u v. box_triangle (λ is js. f (i ∷ is) ((i + d) ∷ js)) ns)
      ∙ sum-box (λ d is. box M (index_minus ns is) (λ ds. f (i ∷ is) ((i + d) ∷ index_plus is ds))) (n - i) 0 ns)

  -- terms that are zero outside a smaller box
  pub box_narrow : (f : List ℕ → A) {ls ns : List ℕ} → Within ls ns → ((j : List ℕ) → InBox j ns → (InBox j ls → ⊥) → f j ≡ M.nil) → box M ns f ≡ box M ls f
  unfolding box
  box_narrow f Within.none h = refl
  box_narrow f (Within.more {i = l} {n = n} {j = ls} {k = ns} p u) h =
      sum_narrow M _ l n p (λ i a b. box-zeros (λ j. f (i ∷ j)) ns (λ j v. h (i ∷ j) (InBox.more b v) (λ w. let q = in-box-first w in omega arith)))
      ∙ sum_same M _ _ l 0 (λ i a b. box_narrow (λ j. f (i ∷ j)) u (λ j v w. h (i ∷ j) (InBox.more (omega arith) v) (λ z. w (in-box-rest z))))
