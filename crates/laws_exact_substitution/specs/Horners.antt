-- Horner's rule on blocks of whole numbers (document 01, port order 7, `subst_var`): every turn, cut to the limits l,
-- is exact there, since nothing on the way weighs more than max(1,|A|) times max(1,|B|) to the p - 1. The first turn
-- multiplies a zero, and asks nothing of |B|.
use Rattle.std.specs.Prelude.{◌≡◌, List, ℤ, nat_abs}
use Rattle.std.proofs.Math.Path.{refl, ap}
use Rattle.std.proofs.Common.{sym, ◌∙◌, zero-add, mul-one, mul-le-mul_left, mul-le-mul_right, pow-suc, arith}
use Rattle.std.proofs.Math.Bool.{false}
use Prim.Native.Nat.{ℕ, zero, suc, ◌+◌, ◌-◌, ◌*◌, ◌^◌, ◌≤◌, ◌<◌, max}
use Rattle.std.proofs.Math.Nat.{le_trans, one-mul, one-le-pow}
use Rattle.std.proofs.Math.ListN.{length}
use Rattle.std.proofs.Math.IntN.{+ℤ_comm}
use Rattle.lists.specs.Four.{at, four, each, at-four}
use Rattle.model.specs.Refusals.{zero_f}
use Rattle.model.specs.Poly.{Block}
use Rattle.model.specs.Add.{joined_block}
use Rattle.model.specs.Product.{constant_block, multiplied}
use Rattle.model.specs.Substitute.{row_at, horner}
use Rattle.model_textbook.specs.Textbook.{Series, series_of, weight, times, coefficient_of, substitute}
use Rattle.laws_whole.specs.Index.{InBox}
use Rattle.laws_whole.specs.IndexLaws.{at_in-box}
use Rattle.laws_whole.specs.SeriesSizes.{sizes-le, abs-times, weight-at}
use Rattle.laws_keeps.specs.Sits.{Sits, sits_self}
use Rattle.laws_keeps.specs.Keeps.{joined-under}
use Rattle.laws_exact.specs.Generals.{Fits}
use Rattle.laws_exact.specs.Wholes.{Wholes, Is, is_same_lem, wholes-is}
use Rattle.laws_exact.specs.Joins.{Room, joined_is}
use Rattle.laws_exact.specs.Multiplied.{zero_is}
use Rattle.laws_exact.proofs.Multiplied.{multiplied-is}
use Rattle.laws_keeps.specs.ProductKeeps.{constant-sits}
use Rattle.laws_exact.specs.Weights.{weight_any}
use Rattle.laws_keeps.proofs.Running.{multiplied-sits}
use Rattle.laws_keeps.specs.SubstituteKeeps.{row-sits}
use Rattle.laws_exact_substitution.specs.Rowed.{row_is}
use Rattle.laws_exact_substitution.specs.Hornered.{running, running_none, running-step, running-all, running-weight}

-- max(1, |A|) of a block with the numbers x at its places
abbrev pub at_least_one : Block → (ℕ → ℤ) → ℕ
at_least_one a x = max 1 (weight a.lengths (series_of a.lengths x))

-- b put for the variable v of a, under the limits l; x and y are the numbers at their places
pub record Puts (l : List ℕ) (v : ℕ) (a b : Block) (x y : ℕ → ℤ) : Type 0 where
  pub var : v < 4
  pub pos_l : (k : ℕ) → k < 4 → 1 ≤ at l k
  pub left : Sits a.lengths a
  pub right : Sits b.lengths b
  pub wholes_left : Wholes a x
  pub wholes_right : Wholes b y
  pub bound : at_least_one a x * at_least_one b y ^ (at a.lengths v - 1) ≤ 2 ^ 53

module _ {l : List ℕ} {v : ℕ} {a b : Block} {x y : ℕ → ℤ} (g : Puts l v a b x y) where
  abbrev A : Series
  A = series_of a.lengths x

  abbrev B : Series
  B = series_of b.lengths y

  abbrev p : ℕ
  p = at a.lengths v

  -- what the rows n to n + d - 1 have made
  abbrev made : ℕ → ℕ → Series
  made = running v A B

  -- ---- sizes

  -- any box of four numbers that holds the rows of v
  pub made-weight : (ns : List ℕ) → length ns ≡ 4 → p ≤ at ns v → (n d : ℕ) → n + d ≤ p
      → weight ns (made n d) * at_least_one b y ^ n ≤ at_least_one a x * at_least_one b y ^ (p - 1)
  made-weight ns f r n d e =
      le_trans
      (running-weight v A B ns (rw f g.var) p r (g.left.lo v g.var) (at_least_one b y) (omega arith)
      (le_trans (weight_any b.lengths (ap length g.right.ns) y ns f) (omega arith)) n d e)
      (mul-le-mul_right (at_least_one b y ^ (p - 1)) (le_trans (weight_any a.lengths (ap length g.left.ns) x ns f) (omega arith)))

  -- a box that holds an index and the rows of v
  wide_lem : List ℕ → List ℕ
  wide_lem k = four (λ w. suc (at k w + p))

  in-wide : (k : List ℕ) → length k ≡ 4 → InBox k (wide_lem k)
  unfolding wide_lem
  in-wide k f = at_in-box k (wide_lem k) f (each (λ w. at k w < at (wide_lem k) w) (omega arith) (omega arith) (omega arith) (omega arith))

  wide-weight : (k : List ℕ) (n d : ℕ) → n + d ≤ p → weight (wide_lem k) (made n d) * at_least_one b y ^ n ≤ 2 ^ 53
  unfolding wide_lem
  wide-weight k n d e = le_trans (made-weight (wide_lem k) refl (rw (at-four (λ w. suc (at k w + p)) v g.var) (omega arith)) n d e) g.bound

  pub small : (n d : ℕ) → n + d ≤ p → (k : List ℕ) → length k ≡ 4 → nat_abs (made n d k) ≤ 2 ^ 53
  small n d e k f =
      let W : ℕ = weight (wide_lem k) (made n d) in
      let up : W * 1 ≤ W * at_least_one b y ^ n = mul-le-mul_left W (one-le-pow n (at_least_one b y) (omega arith)) in
      le_trans (weight-at (made n d) (in-wide k f)) (omega (arith, mul-one W, wide-weight k n d e))

  pub fits : (n d : ℕ) → suc n + d ≤ p → Fits l (made (suc n) d) B
  unfolding wide_lem
  fits n d e = record {
    at = λ k f i.
        let W : ℕ = weight (wide_lem k) (made (suc n) d) in
        let t : ℕ = at_least_one b y in
        let small_b : weight (wide_lem k) B ≤ t ^ suc n =
        le_trans (weight_any b.lengths (ap length g.right.ns) y (wide_lem k) refl)
        (rw (pow-suc t n) (le_trans (omega (arith, one-mul t))
        (mul-le-mul_right t (one-le-pow n t (omega arith))))) in
        le_trans (sizes-le (made (suc n) d) B (in-wide k f)) (le_trans (mul-le-mul_left W small_b) (wide-weight k (suc n) d e));
  }

  room : (n d : ℕ) → suc n + d ≤ p → Room false l (times (made (suc n) d) B) (coefficient_of v n A)
  room n d e = record {
    left = λ k f i. le_trans (abs-times (made (suc n) d) B k) ((fits n d e).at k f i);
    both = λ k f i. rw (+ℤ_comm (times (made (suc n) d) B k) (coefficient_of v n A k), ← running-step v A B n d k) (small n (suc d) (omega arith) k f);
  }

  -- ---- the turns

  turn_is : (n d : ℕ) → suc n + d ≡ p → {res : Block} → Sits l res → Is l res (made (suc n) d)
      → Is l (joined_block false (multiplied l res b) (row_at l v a n)) (made n (suc d))
  turn_is n d e {res} r c =
      is_same_lem (λ k f i. +ℤ_comm (times (made (suc n) d) B k) (coefficient_of v n A k) ∙ sym (running-step v A B n d k))
      (joined_is false (multiplied-sits l res b g.pos_l r.lo g.right.lo) (row-sits l v a g.var g.pos_l g.left.lo n)
      (multiplied-is g.pos_l (sits_self r) g.right c (wholes-is g.wholes_right l) (fits n d (omega arith)))
      (row_is l v g.var g.wholes_left n (omega arith))
      (room n d (omega arith)))

  horner-is : (n d : ℕ) → n + d ≡ p → {res : Block} → Sits l res → Is l res (made n d) → Is l (horner l v a n b res) (substitute v p A B)
  unfolding horner
  horner-is zero d e r c = is_same_lem (λ k f i. ap (λ (z : ℕ). made 0 z k) (sym (zero-add d) ∙ e) ∙ running-all v A B p k) c
  horner-is (suc n) d e {res} r c =
      horner-is n (suc d) (omega arith)
      (joined-under false (multiplied-sits l res b g.pos_l r.lo g.right.lo) (row-sits l v a g.var g.pos_l g.left.lo n))
      (turn_is n d e r c)

  -- from a zero of stored count 1
  pub horner-all-is : Is l (horner l v a p b (constant_block zero_f)) (substitute v p A B)
  horner-all-is =
      horner-is p 0 (omega arith) (constant-sits zero_f (row-sits l v a g.var g.pos_l g.left.lo 0)) (zero_is (λ k f i. running_none v A B p k))
