-- What rests on laws of specs/ (SubstituteKeeps).
use Rattle.std.specs.Prelude.{◌≡◌, false, ◌&&◌, List, ltb, length}
use Prim.Native.Nat.{ℕ, zero, suc, ◌+◌, ◌-◌, ◌*◌, ◌≤◌, ◌<◌}
use Rattle.std.proofs.Math.Nat.{le_refl, le_trans}
use native.Mathlib.Omega.{arith}
use Rattle.std.proofs.Math.Dec.{eqb}
use Rattle.std.specs.Float.Ieee.{eq}
use borrow.Author.Tests.{eqb-true, ltb-true}
use Rattle.lists.specs.Test.{decide, and_left, and_right}
use Rattle.lists.specs.Four.{at}
use Rattle.model.specs.declared.Family.TheVariants.{Substitution}
use Rattle.model.specs.Header.{len, stored}
use Rattle.model.specs.Announced.{announced, paired}
use Rattle.model.specs.Refusals.{zero_f}
use Rattle.model.specs.Poly.{Poly, Block, block_of, cut}
use Rattle.model.specs.Linear.{linear}
use Rattle.model.specs.Add.{joined_block}
use Rattle.model.specs.Product.{is_zero, constant_block, multiplied}
use Rattle.model.specs.Substitute.{row_at, horner, substituted, substitute_poly}
use Rattle.shape_words.specs.Rules.{Regular, ruled-at}
use Rattle.shape.specs.Limits.{min_limit-pos}
use Rattle.shape.specs.Announced.{paired-regular}
use Rattle.shape.specs.Under.{under_same}
use Rattle.shape.specs.Keeps.{Keeps}
use Rattle.shape.specs.Cut.{cut_at}
use Rattle.laws_keeps.specs.Ways.{linear-is, line_two_lem}
use Rattle.laws_keeps.specs.Running.{Most, most-more, constant-most, joined-most, most-keeps}
use Rattle.laws_keeps.proofs.Running.{multiplied-most}
use Rattle.laws_keeps.specs.SubstituteKeeps.{lengths-fit, limits, more, powered-most, row-most, row-sits, row_lengths, zero-first}

module _ (l : List ℕ) (v : ℕ) (a : Block) (h : v < 4) (pos_l : (k : ℕ) → k < 4 → 1 ≤ at l k) (pos-a : (k : ℕ) → k < 4 → 1 ≤ at a.lengths k) where
  module _ (b : Block) (pos-b : (k : ℕ) → k < 4 → 1 ≤ at b.lengths k) where
    pub turn-most : (n : ℕ) (x : ℕ → ℕ) {res : Block} → ((k : ℕ) → k < 4 → at (row_lengths l v a h pos_l pos-a) k ≤ x k) → Most l x res
        → Most l (λ k. x k + (more l v a h pos_l pos-a b pos-b) k) (joined_block false (multiplied l res b) (row_at l v a n))
    unfolding cut
    turn-most n x {res} e m =
        joined-most
        (multiplied-most l res b pos_l m.sits.lo pos-b {y = λ k. (more l v a h pos_l pos-a b pos-b) k + 1} m.most
        (λ k g. rw (cut_at l b.lengths k g) (omega arith)) (λ k g. omega arith))
        (most-more (λ k g. le_trans (e k g) (omega arith)) ((row-most l v a h pos_l pos-a) n))

    pub horner-most : (n : ℕ) (x : ℕ → ℕ) {res : Block} → ((k : ℕ) → k < 4 → at (row_lengths l v a h pos_l pos-a) k ≤ x k) → Most l x res
        → Most l (λ k. x k + n * (more l v a h pos_l pos-a b pos-b) k) (horner l v a n b res)
    unfolding horner
    horner-most zero x e m = most-more (λ k g. omega arith) m
    horner-most (suc n) x e m =
        most-more (λ k g. omega arith) (horner-most n (λ k. x k + (more l v a h pos_l pos-a b pos-b) k) (λ k g. le_trans (e k g)
        (omega arith)) (turn-most n x e m))

    pub horner-all : (p : ℕ) → 1 ≤ p → Most l (λ k. at (row_lengths l v a h pos_l pos-a) k + (p - 1) * (more l v a h pos_l pos-a b pos-b) k)
        (horner l v a p b (constant_block zero_f))
    unfolding horner row_at
    horner-all zero e = absurd (omega arith)
    horner-all (suc n) e =
        let d : suc n - 1 ≡ n = omega arith in
        rw d
        (horner-most n (at (row_lengths l v a h pos_l pos-a)) (λ k g. le_refl _)
        (rw (zero-first l v a h pos_l pos-a b pos-b) (joined-most (constant-most zero_f ((row-sits l v a h pos_l pos-a) n)
        ((row-sits l v a h pos_l pos-a) n).lo) ((row-most l v a h pos_l pos-a) n))))

    pub substituted-most : Most l (λ k. at (row_lengths l v a h pos_l pos-a) k + (at a.lengths v - 1) * (more l v a h pos_l pos-a b pos-b)
        k) (substituted l v a b)
    unfolding substituted
    substituted-most =
        decide (is_zero b)
        (λ t. rw t (most-more (λ k g. omega arith) ((row-most l v a h pos_l pos-a) 0)))
        (λ t. rw t (decide (((linear b).yes && eqb (linear b).variable v) && eq (linear b).c zero_f)
        (λ u.
        let w = and_left ((linear b).yes && eqb (linear b).variable v) (eq (linear b).c zero_f) u in
        let i = linear-is b (and_left (linear b).yes (eqb (linear b).variable v) w) in
        let same : (linear b).variable ≡ v = eqb-true _ _ (and_right (linear b).yes (eqb (linear b).variable v) w) in
        rw u ((powered-most l v a h pos_l pos-a b pos-b) (linear b).m (rw same at (line_two_lem b (linear b).variable i.fits))))
        (λ u. rw u (horner-all (at a.lengths v) (pos-a v h)))))

module _ (v : ℕ) (p q : Poly) (g : Regular p.head) (h : Regular q.head) (full : length p.coeffs ≡ stored p.head) where
  pub substitute-keeps : Keeps (announced (Substitution v) p.head q.head) (substitute_poly v p q)
  unfolding substitute_poly announced paired
  substitute-keeps =
      decide (ltb v p.head.vars)
      (λ t.
      let i : v < 4 = omega (arith, ltb-true v p.head.vars t, g.rules.few) in
      rw t
      (most-keeps (paired-regular (Substitution v) (len p.head v) g.rules h.rules)
      (substituted-most (limits v p q g h full) v (block_of p) i (min_limit-pos p.head q.head g.rules h.rules)
      (λ k l. (ruled-at g.rules k l).pos) (block_of q) (λ k l. (ruled-at h.rules k l).pos))
      ((lengths-fit v p q g h full) i)))
      (λ t. rw t (record { regular = g; under = under_same p.head; full = full }))
