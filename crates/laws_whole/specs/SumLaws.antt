-- The laws of a sum over a range, of any operation: each is stated once and serves ℕ and ℤ.
use Rattle.std.specs.Prelude.{◌≡◌}
use Rattle.std.proofs.Math.Path.{refl, sym, ap}
use Rattle.std.proofs.Common.{ap₂, ◌∙◌, zero-add, zero-mul, suc-mul, add_comm}
use Prim.Native.Nat.{ℕ, zero, suc, ◌+◌, ◌-◌, ◌*◌, ◌≤◌, ◌<◌}
use Rattle.std.proofs.Math.Nat.{add-zero, sub_self}
use native.Mathlib.Omega.{arith}
use Rattle.model_textbook.specs.Sum.{Adding, sum}

-- ---- term by term

-- a relation that the two zeros have and that sums of two keep
pub record Additive {A B : Type 0} (M : Adding A) (N : Adding B) (R : A → B → Type 0) : Type 0 where
  pub nil : R M.nil N.nil
  pub plus : (a b : A) (c d : B) → R a c → R b d → R (M.plus a b) (N.plus c d)

-- where all terms of a range have it, the sums have it
pub sum_related : {A B : Type 0} {M : Adding A} {N : Adding B} {R : A → B → Type 0} → Additive M N R
    → (f : ℕ → A) (g : ℕ → B) (n a : ℕ) → ((j : ℕ) → a ≤ j → j < a + n → R (f j) (g j)) → R (sum M f n a) (sum N g n a)
unfolding sum
sum_related r f g zero a h = r.nil
sum_related r f g (suc n) a h =
    r.plus (f a) _ (g a) _ (h a (omega arith) (omega arith)) (sum_related r f g n (suc a) (λ j p q. h j (omega arith) (omega arith)))

-- what goes through a sum of two: a factor, a sign, a cast
pub record Through {A B : Type 0} (M : Adding A) (N : Adding B) (t : A → B) : Type 0 where
  pub nil : t M.nil ≡ N.nil
  pub plus : (a b : A) → t (M.plus a b) ≡ N.plus (t a) (t b)

pub carried_lem : {A B : Type 0} {M : Adding A} {N : Adding B} {t : A → B} → Through M N t → Additive M N (λ a b. t a ≡ b)
carried_lem {N = N} h = record { nil = h.nil; plus = λ a b c d p q. h.plus a b ∙ ap₂ N.plus p q }

-- goes through every sum
pub sum_through : {A B : Type 0} {M : Adding A} {N : Adding B} {t : A → B} → Through M N t → (f : ℕ → A) (n a : ℕ) → t (sum M f n a) ≡ sum N (λ j. t (f j)) n a
sum_through {t = t} h f n a = sum_related (carried_lem h) f (λ j. t (f j)) n a (λ j p q. refl)

module _ {A : Type 0} (M : Adding A) where
  -- to be equal, and to be zero
  pub equal : Additive M M (λ a b. a ≡ b)
  equal = record { nil = refl; plus = λ a b c d p q. ap₂ M.plus p q }

  pub zeros : Additive M M (λ a b. a ≡ M.nil)
  zeros = record { nil = refl; plus = λ a b c d p q. ap₂ M.plus p q ∙ M.nil_plus M.nil }

  -- terms that agree on the range
  pub sum_same : (f g : ℕ → A) (n a : ℕ) → ((j : ℕ) → a ≤ j → j < a + n → f j ≡ g j) → sum M f n a ≡ sum M g n a
  sum_same = sum_related equal

  -- all terms zero
  pub sum_zeros : (f : ℕ → A) (n a : ℕ) → ((j : ℕ) → a ≤ j → j < a + n → f j ≡ M.nil) → sum M f n a ≡ M.nil
  sum_zeros f = sum_related zeros f f

  -- ---- the operation

  pub plus_nil : (a : A) → M.plus a M.nil ≡ a
  plus_nil a = M.comm a M.nil ∙ M.nil_plus a

  -- (a + b) + (c + d), the middle two exchanged
  pub plus_middle : (a b c d : A) → M.plus (M.plus a b) (M.plus c d) ≡ M.plus (M.plus a c) (M.plus b d)
  plus_middle a b c d =
      M.assoc a b (M.plus c d)
      ∙ ap (M.plus a) (sym (M.assoc b c d) ∙ (ap (λ (x : A). M.plus x d) (M.comm b c) ∙ M.assoc c b d))
      ∙ sym (M.assoc a c (M.plus b d))

  -- ---- the range, in parts and in other orders

  -- no term
  pub sum_empty : (f : ℕ → A) (a : ℕ) → sum M f 0 a ≡ M.nil
  unfolding sum
  sum_empty f a = refl

  -- the first term apart
  pub sum_first : (f : ℕ → A) (n a : ℕ) → sum M f (suc n) a ≡ M.plus (f a) (sum M f n (suc a))
  unfolding sum
  sum_first f n a = refl

  -- one term
  pub sum_one : (f : ℕ → A) (a : ℕ) → sum M f 1 a ≡ f a
  unfolding sum
  sum_one f a = plus_nil (f a)

  -- a range in two parts
  pub sum-split : (f : ℕ → A) (n m a : ℕ) → sum M f (n + m) a ≡ M.plus (sum M f n a) (sum M f m (a + n))
  unfolding sum
  sum-split f zero m a = rw (zero-add m, add-zero a) (sym (M.nil_plus (sum M f m a)))
  sum-split f (suc n) m a =
      let e : suc n + m ≡ suc (n + m) = omega arith in
      let k : suc a + n ≡ a + suc n = omega arith in
      ap (λ (i : ℕ). sum M f i a) e
      ∙ ap (M.plus (f a)) (sum-split f n m (suc a))
      ∙ sym (M.assoc (f a) (sum M f n (suc a)) (sum M f m (suc a + n)))
      ∙ ap (λ (i : ℕ). M.plus (sum M f (suc n) a) (sum M f m i)) k

  -- the last term apart
  pub sum-last : (f : ℕ → A) (n a : ℕ) → sum M f (suc n) a ≡ M.plus (sum M f n a) (f (a + n))
  sum-last f n a =
      let e : suc n ≡ n + 1 = omega arith in
      ap (λ (i : ℕ). sum M f i a) e ∙ sum-split f n 1 a ∙ ap (M.plus (sum M f n a)) (sum_one f (a + n))

  -- the range moved
  pub sum-shift : (f : ℕ → A) (n a b : ℕ) → sum M (λ i. f (a + i)) n b ≡ sum M f n (a + b)
  unfolding sum
  sum-shift f zero a b = refl
  sum-shift f (suc n) a b =
      let e : a + suc b ≡ suc (a + b) = omega arith in
      ap (M.plus (f (a + b))) (sum-shift f n a (suc b) ∙ ap (sum M f n) e)

  -- the terms in the other order
  pub sum_reverse : (f : ℕ → A) (n : ℕ) → sum M f n 0 ≡ sum M (λ j. f (n - suc j)) n 0
  unfolding sum
  sum_reverse f zero = refl
  sum_reverse f (suc n) =
      sum-last f n 0
      ∙ M.comm (sum M f n 0) (f (0 + n))
      ∙ (let e : 0 + n ≡ suc n - 1 = omega arith in ap (λ (i : ℕ). M.plus (f i) (sum M f n 0)) e)
      ∙ ap (M.plus (f (suc n - 1)))
      (sum_reverse f n
      ∙ sum_same (λ j. f (n - suc j)) (λ j. f (suc n - suc (1 + j))) n 0 (λ j p q. let e : n - suc j ≡ suc n - suc (1 + j) = omega arith in ap f e)
      ∙ sum-shift (λ j. f (suc n - suc j)) n 1 0)

  -- terms that are zero from l on
  pub sum_narrow : (f : ℕ → A) (l n : ℕ) → l ≤ n → ((j : ℕ) → l ≤ j → j < n → f j ≡ M.nil) → sum M f n 0 ≡ sum M f l 0
  sum_narrow f l n p h =
      let e : n ≡ l + (n - l) = omega arith in
      ap (λ (k : ℕ). sum M f k 0) e
      ∙ sum-split f l (n - l) 0
      ∙ ap (M.plus (sum M f l 0)) (sum_zeros f (n - l) (0 + l) (λ j u v. h j (omega arith) (omega arith)))
      ∙ plus_nil (sum M f l 0)

  -- all terms zero but one
  pub sum-only : (f : ℕ → A) (n a e : ℕ) → a ≤ e → e < a + n → ((j : ℕ) → a ≤ j → j < a + n → (j ≡ e → ⊥) → f j ≡ M.nil) → sum M f n a ≡ f e
  sum-only f n a e p q h =
      let i = e - a in
      let m = n - suc i in
      let s : n ≡ i + suc m = omega arith in
      let t : a + i ≡ e = omega arith in
      ap (λ (k : ℕ). sum M f k a) s
      ∙ sum-split f i (suc m) a
      ∙ ap (λ (x : A). M.plus x (sum M f (suc m) (a + i))) (sum_zeros f i a (λ j u v. h j u (omega arith) (λ w. omega arith)))
      ∙ M.nil_plus (sum M f (suc m) (a + i))
      ∙ sum_first f m (a + i)
      ∙ ap (M.plus (f (a + i))) (sum_zeros f m (suc (a + i)) (λ j u v. h j (omega arith) (omega arith) (λ w. omega arith)))
      ∙ plus_nil (f (a + i))
      ∙ ap f t

  -- the sum of sums of two
  pub sum-plus : (f g : ℕ → A) (n a : ℕ) → sum M (λ j. M.plus (f j) (g j)) n a ≡ M.plus (sum M f n a) (sum M g n a)
  unfolding sum
  sum-plus f g zero a = sym (M.nil_plus M.nil)
  sum-plus f g (suc n) a =
      ap (M.plus (M.plus (f a) (g a))) (sum-plus f g n (suc a))
      ∙ plus_middle (f a) (g a) (sum M f n (suc a)) (sum M g n (suc a))

  -- two sums exchanged
  pub sum_exchange : (f : ℕ → ℕ → A) (n a m b : ℕ) → sum M (λ i. sum M (f i) m b) n a ≡ sum M (λ j. sum M (λ i. f i j) n a) m b
  unfolding sum
  sum_exchange f zero a m b = sym (sum_zeros (λ j. M.nil) m b (λ j p q. refl))
  sum_exchange f (suc n) a m b =
      ap (M.plus (sum M (f a) m b)) (sum_exchange f n (suc a) m b)
      ∙ sym (sum-plus (f a) (λ j. sum M (λ i. f i j) n (suc a)) m b)

  -- two sums over a triangle exchanged: i ≤ j < n, by j and by i
  pub sum_triangle : (f : ℕ → ℕ → A) (n : ℕ) → sum M (λ j. sum M (λ i. f i j) (suc j) 0) n 0 ≡ sum M (λ i. sum M (λ d. f i (i + d)) (n - i) 0) n 0
  sum_triangle f zero = sum_empty _ 0 ∙ sym (sum_empty _ 0)
  sum_triangle f (suc n) =
      let by_row : ℕ → ℕ → A = λ m i. sum M (λ d. f i (i + d)) (m - i) 0 in
      let row : (i : ℕ) → i ≤ n → by_row (suc n) i ≡ M.plus (by_row n i) (f i n) =
      λ i h.
      let e : suc n - i ≡ suc (n - i) = omega arith in
      let k : i + (0 + (n - i)) ≡ n = omega arith in
      ap (λ (m : ℕ). sum M (λ d. f i (i + d)) m 0) e ∙ sum-last (λ d. f i (i + d)) (n - i) 0 ∙ ap (λ (m : ℕ). M.plus (by_row n i) (f i m)) k in
      let last : by_row n n ≡ M.nil = ap (λ (m : ℕ). sum M (λ d. f n (n + d)) m 0) (sub_self n) ∙ sum_empty _ 0 in
      sum-last (λ j. sum M (λ i. f i j) (suc j) 0) n 0
      ∙ ap (λ (x : A). M.plus x (sum M (λ i. f i (0 + n)) (suc (0 + n)) 0)) (sum_triangle f n)
      ∙ ap (λ (m : ℕ). M.plus (sum M (by_row n) n 0) (sum M (λ i. f i m) (suc m) 0)) (zero-add n)
      ∙ ap (λ (x : A). M.plus x (sum M (λ i. f i n) (suc n) 0))
      (sym (plus_nil (sum M (by_row n) n 0)) ∙ ap (M.plus (sum M (by_row n) n 0))
      (sym last ∙ ap (by_row n) (sym (zero-add n))) ∙ sym (sum-last (by_row n) n 0))
      ∙ sym (sum-plus (by_row n) (λ i. f i n) (suc n) 0)
      ∙ sym (sum_same (by_row (suc n)) (λ i. M.plus (by_row n i) (f i n)) (suc n) 0 (λ i p q. row i (omega arith)))

  -- m rows of s, one after the other
  pub sum_blocks : (f : ℕ → A) (s m b : ℕ) → sum M (λ j. sum M (λ i. f (j * s + i)) s 0) m b ≡ sum M f (m * s) (b * s)
  unfolding sum
  sum_blocks f s zero b = rw (zero-mul s)
  sum_blocks f s (suc m) b =
      ap (λ (x : A). M.plus x (sum M (λ j. sum M (λ i. f (j * s + i)) s 0) m (suc b))) (sum-shift f s (b * s) 0 ∙ ap (sum M f s) (add-zero (b * s)))
      ∙ ap (M.plus (sum M f s (b * s))) (sum_blocks f s m (suc b) ∙ ap (sum M f (m * s)) (suc-mul b s))
      ∙ sym (sum-split f s (m * s) (b * s))
      ∙ ap (λ (k : ℕ). sum M f k (b * s)) (add_comm s (m * s) ∙ sym (suc-mul m s))
