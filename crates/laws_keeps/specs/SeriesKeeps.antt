-- What exp and log owe of their headers (document 01, 'Announced limits and lengths', exp and log: 1 where a is 1, else
-- L): the true header is the announced one, and the coefficients are as many as it says. Of a constant they give the
-- head alone.
use Rattle.std.specs.Prelude.{◌≡◌, not, cond, List, [], ◌∷◌, eqb, ltb, length, Float}
use Rattle.std.proofs.Math.Path.{refl, ap}
use Rattle.std.proofs.Common.{sym, ◌∙◌, le_refl, le_trans, mul-one, one-mul, zero-mul, mul-le-mul_right, arith, length-take-le}
use Prim.Native.Nat.{ℕ, zero, suc, ◌+◌, ◌-◌, ◌*◌, ◌≤◌, ◌<◌}
use borrow.Author.Tests.{eqb-true}
use Rattle.lists.specs.Test.{decide, and_right, of-both, of-each}
use Rattle.lists.specs.Table.{length-table}
use Rattle.lists.specs.Grow.{length-grow}
use Rattle.lists.specs.Stack.{stack, length-stack}
use Rattle.lists.specs.Four.{at, at-four, four_same, each}
use Rattle.model.specs.declared.Header.{Header}
use Rattle.model.specs.declared.Family.TheVariants.{Series, Quotient}
use Rattle.model.specs.Header.{span, count, stored, len, limit, no_header}
use Rattle.model.specs.Announced.{announced, single, length_after, limit_after}
use Rattle.model.specs.General.{alone}
use Rattle.model.specs.Poly.{Poly, block}
use Rattle.model.specs.Quotient.{quotient_shape}
use Rattle.model.specs.Series.{row_of, after, exp_row, exp_rows, log_next, log_gathered, log_row, log_rows, series_shape, exp_of, log_of, exp_poly, log_poly}
use Rattle.shape_words.specs.Rules.{Regular, ruled-at, none-regular}
use Rattle.shape_words.specs.Spans.{count-one}
use Rattle.shape.specs.Announced.{announced-regular}
use Rattle.shape.specs.Keeps.{Keeps}
use Rattle.laws_keeps.specs.Sits.{Sits}
use Rattle.laws_keeps.specs.Keeps.{sits-keeps}
use Rattle.laws_keeps.specs.QuotientKeeps.{quotient-sits, quotient-lengths}

-- ---- as many places as the lengths say

module _ (head : Float) (lx r : List ℕ) where
  pub length-exp : (xs : List Float) (n v : ℕ) → ((w : ℕ) → v ≤ w → w < v + n → 1 ≤ at r w) → length (exp_rows head lx r n v xs) ≡ span r n v
  unfolding exp_rows exp_row span
  length-exp xs zero v h = refl
  length-exp xs (suc n) v h =
      let a : at r v - 1 + 1 ≡ at r v = omega (arith, h v (omega arith) (omega arith)) in
      length-stack (exp_row head lx r n v xs) (exp_rows head lx r n (suc v) xs) (span r n (suc v))
      (length-exp xs n (suc v) (λ w p q. h w (omega arith) (omega arith)))
      (λ k q. length-table _ _ ∙ length-table _ _)
      (at r v - 1)
      ∙ ap (λ (m : ℕ). m * span r n (suc v)) a

-- how many places the variables after v span
count_after_lem : (l : List ℕ) (v : ℕ) → v < 4 → count (after v l) ≡ span l (3 - v) (suc v)
unfolding span
count_after_lem l =
    each (λ v. count (after v l) ≡ span l (3 - v) (suc v)) (one-mul _) (one-mul _ ∙ one-mul _)
    (one-mul _ ∙ (one-mul _ ∙ one-mul _)) (one-mul _ ∙ (one-mul _ ∙ (one-mul _ ∙ one-mul _)))

pub after-count : (l : List ℕ) (n v : ℕ) → v + suc n ≡ 4 → count (after v l) ≡ span l n (suc v)
after-count l n v h = let e : 3 - v ≡ n = omega arith in count_after_lem l v (omega arith) ∙ ap (λ (m : ℕ). span l m (suc v)) e

-- lx at most r, and as many places as lx says
pub record Under (lx r : List ℕ) : Type 0 where
  pub lo : (k : ℕ) → k < 4 → 1 ≤ at lx k
  pub hi : (k : ℕ) → k < 4 → at lx k ≤ at r k

module _ {lx r : List ℕ} (u : Under lx r) (v : ℕ) where
  after-at : (l : List ℕ) (k : ℕ) → k < 4 → at (after v l) k ≡ cond (ltb v k) (at l k) 1
  after-at l = at-four (λ w. cond (ltb v w) (at l w) 1)

  pub after-lo : (l : List ℕ) → ((k : ℕ) → k < 4 → 1 ≤ at l k) → (k : ℕ) → k < 4 → 1 ≤ at (after v l) k
  after-lo l p k h = rw (after-at l k h) (of-both (λ (x : ℕ). 1 ≤ x) (ltb v k) (p k h) (le_refl 1))

  pub after-hi : (k : ℕ) → k < 4 → at (after v lx) k ≤ at (after v r) k
  after-hi k h = rw (after-at lx k h, after-at r k h) (of-each (λ (x y : ℕ). x ≤ y) (ltb v k) (u.hi k h) (le_refl 1))

  result-lo : (k : ℕ) → k < 4 → 1 ≤ at r k
  result-lo k h = le_trans (u.lo k h) (u.hi k h)

  -- the lengths of the inner quotient
  pub after-shape : quotient_shape (after v r) (after v r) (after v lx) ≡ after v r
  unfolding quotient_shape
  after-shape =
      four_same (λ k. length_after Quotient k (at (after v r) k) 1 (at (after v r) k) (at (after v lx) k)) (at (after v r))
      (λ k h. of-both (λ (x : ℕ). x ≡ at (after v r) k) (eqb (at (after v lx) k) 1) refl refl)

  module _ (n : ℕ) (e : v + suc n ≡ 4) (xs : List Float) (m : span lx n (suc v) ≤ length xs) where
    pub row-sits : (ys : List Float) → length ys ≡ span r n (suc v) → Sits (after v r) (block (after v r) ys)
    row-sits ys l = record { ns = refl; lo = after-lo r result-lo; hi = λ k h. le_refl _; full = l ∙ sym (after-count r n v e) }

    pub first-sits : Sits (after v r) (block (after v lx) (row_of lx n v 0 xs))
    first-sits = record {
      ns = refl;
      lo = after-lo lx u.lo;
      hi = after-hi;
      full = rw (zero-mul (span lx n (suc v))) (length-take-le (span lx n (suc v)) xs m ∙ sym (after-count lx n v e));
    }

    length-row : (head : Float) (k : ℕ) (q : List Float) → length (log_row head lx r n v xs k q) ≡ span r n (suc v)
    unfolding log_row log_gathered
    length-row head k q =
        let a = row-sits (log_gathered head lx r n v xs k q) (length-table _ _) in
        length-table _ _
        ∙ ((quotient-sits a first-sits).full
        ∙ (ap count (quotient-lengths a first-sits ∙ after-shape) ∙ after-count r n v e))

-- the variables after one span no more
span-after : {lx r : List ℕ} → Under lx r → (n v m : ℕ) → v + suc n ≡ 4 → span lx (suc n) v ≤ m → span lx n (suc v) ≤ m
unfolding span
span-after {lx} u n v m e h =
    let p : 1 * span lx n (suc v) ≤ at lx v * span lx n (suc v) = mul-le-mul_right (span lx n (suc v)) (u.lo v (omega arith)) in
    omega (arith, p, one-mul (span lx n (suc v)))

pub length-log : (head : Float) {lx r : List ℕ} → Under lx r → (xs : List Float) (n v : ℕ) → v + n ≡ 4
    → span lx n v ≤ length xs → length (log_rows head lx r n v xs) ≡ span r n v
unfolding log_rows alone span
length-log head u xs zero v e m = refl
length-log head {lx} {r} u xs (suc n) v e m =
    let l : span lx n (suc v) ≤ length xs = span-after u n v (length xs) e m in
    let p : 1 ≤ at r v = result-lo u v v (omega arith) in
    let c : at r v - 1 + 1 ≡ at r v = omega arith in
    decide (alone r n v)
    (λ t.
    let o : span r n (suc v) ≡ 1 = eqb-true _ _ (and_right (not (eqb (at r v) 1)) (eqb (span r n (suc v)) 1) t) in
    rw (t, o) (length-grow (at r v - 1) (log_next head lx r v xs) (head ∷ []) ∙ omega (arith, mul-one (at r v))))
    (λ t.
    rw t
    (length-stack (log_row head lx r n v xs) (log_rows head lx r n (suc v) xs) (span r n (suc v))
    (length-log head u xs n (suc v) (omega arith) l) (length-row u v n e xs l head) (at r v - 1)
    ∙ ap (λ (i : ℕ). i * span r n (suc v)) c))

-- ---- the headers

module _ {a : Header} (g : Regular a) where
  abbrev told : Header
  told = announced Series a no_header

  pub series-regular : Regular told
  series-regular = announced-regular Series g none-regular

  -- no length becomes smaller
  pub series_under_lem : Under a.lengths told.lengths
  unfolding announced single
  series_under_lem = record {
    lo = λ k h. (ruled-at g.rules k h).pos;
    hi = λ k h.
        rw (at-four (λ k. length_after Series k (limit_after Series k (limit a k)) 1 (len a k) 1) k h)
        (decide (eqb (len a k) 1) (λ t. rw t (omega (arith, eqb-true (len a k) 1 t))) (λ t. rw t (ruled-at g.rules k h).fit));
  }

  told-sits : (ys : List Float) → length ys ≡ stored told → Sits told.lengths (block told.lengths ys)
  told-sits ys e = record { ns = series-regular.ns; lo = λ k h. (ruled-at series-regular.rules k h).pos; hi = λ k h. le_refl _; full = e }

module _ (head : Float) (p : Poly) (g : Regular p.head) where
  pub exp-keeps : Keeps (announced Series p.head no_header) (exp_poly head p)
  unfolding exp_poly exp_of series_shape announced single
  exp-keeps =
      sits-keeps (series-regular g)
      (told-sits g _ (length-exp head p.head.lengths _ p.coeffs 4 0 (λ w a b. (ruled-at (series-regular g).rules w (omega arith)).pos)))

  pub log-keeps : length p.coeffs ≡ stored p.head → Keeps (announced Series p.head no_header) (log_poly head p)
  unfolding log_poly log_of series_shape announced single
  log-keeps f = sits-keeps (series-regular g) (told-sits g _ (length-log head (series_under_lem g) p.coeffs 4 0 refl (omega arith)))

  -- the true header is the announced one
  pub exp_head_lem : (exp_poly head p).head ≡ announced Series p.head no_header
  unfolding exp_poly exp_of series_shape announced single
  exp_head_lem = refl

  pub log-head : (log_poly head p).head ≡ announced Series p.head no_header
  unfolding log_poly log_of series_shape announced single
  log-head = refl

-- ---- of a constant

module _ (head : Float) (lx r : List ℕ) (xs : List Float) where
  exp-ones : (n v : ℕ) → ((w : ℕ) → v ≤ w → w < v + n → at r w ≡ 1) → exp_rows head lx r n v xs ≡ head ∷ []
  unfolding exp_rows stack
  exp-ones zero v h = refl
  exp-ones (suc n) v h = rw (h v (omega arith) (omega arith)) (exp-ones n (suc v) (λ w p q. h w (omega arith) (omega arith)))

  log-ones : (n v : ℕ) → ((w : ℕ) → v ≤ w → w < v + n → at r w ≡ 1) → log_rows head lx r n v xs ≡ head ∷ []
  unfolding log_rows alone stack
  log-ones zero v h = refl
  log-ones (suc n) v h = rw (h v (omega arith) (omega arith)) (log-ones n (suc v) (λ w p q. h w (omega arith) (omega arith)))

module _ (head : Float) (p : Poly) (g : Regular p.head) (c : stored p.head ≡ 1) where
  told-ones : (k : ℕ) → k < 4 → len (announced Series p.head no_header) k ≡ 1
  unfolding announced single
  told-ones k h =
      rw (at-four (λ k. length_after Series k (limit_after Series k (limit p.head k)) 1 (len p.head k) 1) k h)
      (rw (count-one p.head.lengths (λ k l. (ruled-at g.rules k l).pos) c k h))

  pub exp_constant_lem : (exp_poly head p).coeffs ≡ head ∷ []
  unfolding exp_poly exp_of series_shape announced single
  exp_constant_lem = exp-ones head p.head.lengths _ p.coeffs 4 0 (λ w a b. told-ones w (omega arith))

  pub log-constant : (log_poly head p).coeffs ≡ head ∷ []
  unfolding log_poly log_of series_shape announced single
  log-constant = log-ones head p.head.lengths _ p.coeffs 4 0 (λ w a b. told-ones w (omega arith))
