-- Steps one after the other over a range, each from what the one before left: a loop that carries one value.
use Prim.Native.Nat.{ℕ, zero, suc, ◌+◌, ◌-◌, ◌≤◌, ◌<◌}
use Rattle.std.specs.Prelude.{◌≡◌}
use Rattle.std.proofs.Math.Path.{refl, sym, ap}
use Rattle.std.proofs.Common.{◌∙◌, add-zero}
use native.Mathlib.Omega.{arith}

-- f at a, a + 1, ..: n of them, the first one innermost
unfoldable pub walk {ℓ} : {A : Type ℓ} → (ℕ → A → A) → ℕ → ℕ → A → A
walk f zero a acc = acc
walk f (suc n) a acc = walk f n (suc a) (f a acc)

module _ {ℓ} {A : Type ℓ} where
  -- one step more at the end
  pub walk_more : (f : ℕ → A → A) (n a : ℕ) (x : A) → walk f (suc n) a x ≡ f (a + n) (walk f n a x)
  unfolding walk
  walk_more f zero a x = ap (λ (j : ℕ). f j x) (sym (add-zero a))
  walk_more f (suc n) a x =
      let e : suc a + n ≡ a + suc n = omega arith in
      walk_more f n (suc a) (f a x) ∙ ap (λ (j : ℕ). f j (walk f (suc n) a x)) e

  -- steps that agree on the range
  pub walk_same : (f g : ℕ → A → A) (n a : ℕ) (x : A) → ((j : ℕ) → a ≤ j → j < a + n → (y : A) → f j y ≡ g j y) → walk f n a x ≡ walk g n a x
  unfolding walk
  walk_same f g zero a x h = refl
  walk_same f g (suc n) a x h =
      ap (walk f n (suc a)) (h a (omega arith) (omega arith) x)
      ∙ walk_same f g n (suc a) (g a x) (λ j p q y. h j (omega arith) (omega arith) y)

  -- a range in two parts
  pub walk_split : (f : ℕ → A → A) (n m a : ℕ) (x : A) → walk f (n + m) a x ≡ walk f m (a + n) (walk f n a x)
  unfolding walk
  walk_split f zero m a x =
      let e : 0 + m ≡ m = omega arith in
      ap (λ (k : ℕ). walk f k a x) e ∙ ap (λ (j : ℕ). walk f m j x) (sym (add-zero a))
  walk_split f (suc n) m a x =
      let e : suc n + m ≡ suc (n + m) = omega arith in
      let k : suc a + n ≡ a + suc n = omega arith in
      ap (λ (i : ℕ). walk f i a x) e ∙ (walk_split f n m (suc a) (f a x) ∙ ap (λ (j : ℕ). walk f m j (walk f (suc n) a x)) k)

-- what a loop from a on, which has come to j, carries
pub record Walked {ℓ} {A : Type ℓ} (f : ℕ → A → A) (a j : ℕ) (x y : A) : Type ℓ where
  pub from : a ≤ j
  pub is : y ≡ walk f (j - a) a x

module _ {ℓ} {A : Type ℓ} where
  pub walked_none : (f : ℕ → A → A) (a : ℕ) (x : A) → Walked f a a x x
  unfolding walk
  walked_none f a x = let e : a - a ≡ 0 = omega arith in record { from = omega arith; is = sym (ap (λ (n : ℕ). walk f n a x) e) }

  pub walked_more : {f : ℕ → A → A} {a j : ℕ} {x y z : A} → Walked f a j x y → z ≡ f j y → Walked f a (j + 1) x z
  walked_more {f} {a} {j} {x} w e =
      let h = w.from in
      let p : j ≡ a + (j - a) = omega arith in
      let q : suc (j - a) ≡ j + 1 - a = omega arith in
      record {
        from = omega arith;
        is = e ∙ (ap (f j) w.is ∙ (ap (λ (i : ℕ). f i (walk f (j - a) a x)) p ∙ (sym (walk_more f (j - a) a x) ∙ ap (λ (n : ℕ). walk f n a x) q)));
      }

  pub walked_end : {f : ℕ → A → A} {a j : ℕ} {x y : A} (n : ℕ) → Walked f a j x y → j ≡ a + n → y ≡ walk f n a x
  walked_end {f} {a} {j} {x} n w e = let p : j - a ≡ n = omega arith in w.is ∙ ap (λ (k : ℕ). walk f k a x) p
