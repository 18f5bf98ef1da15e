-- m times a block, shifted up by one in a variable (document 01, port order 4, the source's `mul_var`), cut to the
-- limits.
use Rattle.std.specs.Prelude.{◌≡◌, List, ℕ, ◌+◌, ◌-◌, ◌^◌, ◌≤◌, ◌<◌, min, eqb, length, set, ℤ, nat_abs, ◌*ℤ◌, Float}
use Rattle.std.proofs.Common.{sym, ap, ◌∙◌, true≢false, arith, length-set}
use Rattle.std.proofs.Math.IntN.{zero-*ℤ}
use Rattle.std.proofs.lemmas.Bool.{eqb-false}
use Rattle.lists.specs.Test.{decide}
use Rattle.lists.specs.Table.{table}
use Rattle.lists.specs.Four.{at, one-changed, at_same, at_other, long}
use Rattle.model.specs.Header.{count}
use Rattle.model.specs.Places.{index}
use Rattle.model.specs.Poly.{Block, block}
use Rattle.model.specs.Product.{grown, raised_at, raised}
use Rattle.model_textbook.specs.Textbook.{Series}
use Rattle.laws_whole.specs.Whole.{Whole, whole-zero}
use Rattle.laws_whole.specs.Exact.{whole-mul}
use Rattle.shape_words.specs.Lengths.{Inside, is_inside_lem, inside-four, inside-at}
use Rattle.laws_keeps.specs.Sits.{Sits}
use Rattle.laws_exact.specs.Factors.{positive, raised_z}
use Rattle.laws_exact.specs.Wholes.{Is, whole-at, stored_at, past-at, index_read}
use Rattle.laws_exact.specs.Firsts.{outside}

module _ {k : List ℕ} (f : length k ≡ 4) (v : ℕ) (h : v < 4) (pos-k : 1 ≤ at k v) where
  inside-lower : {n : List ℕ} (w : ℕ) → v < length n → w ≤ at n v + 1 → Inside (set n v w) k → Inside n (set k v (at k v - 1))
  inside-lower {n} w long-n le i =
      inside-four (one-changed (λ c x. x < at n c) k v (at k v - 1) (rw f h)
      (let e : at (set n v w) v ≡ w = at_same n v w long-n in omega (arith, inside-at i v h))
      (λ c g o. rw (at_other n v c w o) at (inside-at i c g)))

  inside-raise : {n l : List ℕ} → v < length n → Inside l k → Inside n (set k v (at k v - 1)) → Inside (set n v (min (at l v) (at n v + 1))) k
  inside-raise {n} {l} long-n i j =
      inside-four (one-changed (λ c x. at k c < x) n v (min (at l v) (at n v + 1)) long-n
      (let e : at (set k v (at k v - 1)) v ≡ at k v - 1 = at_same k v (at k v - 1) (rw f h) in omega (arith, inside-at i v h, inside-at j v h))
      (λ c g o. rw (at_other k v c (at k v - 1) o) at (inside-at j c g)))

  inside-less : {l : List ℕ} → Inside l k → Inside l (set k v (at k v - 1))
  inside-less {l} i = inside-four (one-changed (λ c x. x < at l c) k v (at k v - 1) (rw f h) (omega (arith, inside-at i v h)) (λ c g o. inside-at i c g))

pub raised_is : {l : List ℕ} {x : Block} {X : Series} {m : Float} {M : ℤ} (v : ℕ) → v < 4 → Sits l x → Is l x X → Whole m M
    → ((k : List ℕ) → length k ≡ 4 → Inside l k → nat_abs (raised_z v M X k) ≤ 2 ^ 53) → Is l (raised l v m x) (raised_z v M X)
unfolding raised grown raised_at
raised_is {l} {x} {X} {m} {M} v h s q w room = record {
  at = λ k f i.
      let n = x.lengths in
      let n' = set n v (min (at l v) (at n v + 1)) in
      let long-n : v < length n = long n v (s.lo v h) in
      let k' = set k v (at k v - 1) in
      let f' : length k' ≡ 4 = length-set k v (at k v - 1) ∙ f in
      whole-at (block n' (table (count n') (λ p. raised_at v m x (index n' p)))) k
      (λ j. rw (index_read n' (raised_at v m x) k f j) (decide (eqb (at k v) 0)
      (λ t. rw t whole-zero)
      (λ t.
      let p = positive (at k v) (eqb-false _ _ t) in
      rw t (whole-mul (stored_at x k' (q.at k' f' (inside-less f v h p i)) (inside-lower f v h p _ long-n (omega arith) j)) w (rw t at (room k f i))))))
      (λ o. decide (eqb (at k v) 0)
      (λ t. rw t)
      (λ t.
      let p = positive (at k v) (eqb-false _ _ t) in
      rw t (ap (λ (z : ℤ). z *ℤ M) (past-at x k' (q.at k' f' (inside-less f v h p i))
      (outside n k' (λ j. true≢false (sym (is_inside_lem (inside-raise f v h p long-n i j)) ∙ o)))) ∙ zero-*ℤ M)));
}
