-- Polynomials with coefficients in ℤ, the lowest first, at a fraction z / c: `ev` is the value times c ^ (length - 1),
-- a number of ℤ.
use Rattle.std.specs.Prelude.{◌≡◌, refl, List, [], ◌∷◌, Bool, true, false, ℕ, ◌+◌, ◌*◌, ◌≤◌, ℤ, pos, nat_abs, ◌+ℤ◌, ◌*ℤ◌}
use Rattle.std.proofs.Common.{sym, ap, ap₂, ◌∙◌, le_trans, le_of_eq, mul-le-mul_left, mul-le-mul_right, zero-mul, arith}
use Rattle.std.proofs.lemmas.Bool.{false≢true}
use Rattle.std.proofs.Math.IntN.{*ℤ-zero}
use Rattle.laws_whole.specs.Int.{ring, abs-add, abs-mul}

-- c ^ length
unfoldable pub weight : ℤ → List ℤ → ℤ
weight c [] = pos 1
weight c (x ∷ s) = c *ℤ weight c s

unfoldable pub ev : List ℤ → ℤ → ℤ → ℤ
unfolding weight
ev [] z c = pos 0
ev (x ∷ s) z c = x *ℤ weight c s +ℤ z *ℤ ev s z c

-- ---- the shift: s at z / c + k, as a polynomial at z / c

-- x + (Z + k) * s
unfoldable pub carry : ℤ → ℤ → List ℤ → List ℤ
carry k x [] = x ∷ []
carry k x (y ∷ s) = (x +ℤ k *ℤ y) ∷ carry k y s

unfoldable pub shift : ℤ → List ℤ → List ℤ
unfolding carry
shift k [] = []
shift k (x ∷ s) = carry k x (shift k s)

carry-turn : (x k y c w z e : ℤ)
    → (x +ℤ k *ℤ y) *ℤ (c *ℤ w) +ℤ z *ℤ (y *ℤ w +ℤ (z +ℤ k *ℤ c) *ℤ e) ≡ x *ℤ (c *ℤ w) +ℤ (z +ℤ k *ℤ c) *ℤ (y *ℤ w +ℤ z *ℤ e)
carry-turn x k y c w z e = simp ring

carry-weight : (k x c : ℤ) (s : List ℤ) → weight c (carry k x s) ≡ c *ℤ weight c s
unfolding weight carry
carry-weight k x c [] = refl
carry-weight k x c (y ∷ s) = ap (λ (w : ℤ). c *ℤ w) (carry-weight k y c s)

carry-ev : (k x z c : ℤ) (s : List ℤ) → ev (carry k x s) z c ≡ x *ℤ weight c s +ℤ (z +ℤ k *ℤ c) *ℤ ev s z c
unfolding ev carry
carry-ev k x z c [] = ap (λ (w : ℤ). x *ℤ pos 1 +ℤ w) (*ℤ-zero z ∙ sym (*ℤ-zero (z +ℤ k *ℤ c)))
carry-ev k x z c (y ∷ s) =
    ap₂ (λ (v w : ℤ). (x +ℤ k *ℤ y) *ℤ v +ℤ z *ℤ w) (carry-weight k y c s) (carry-ev k y z c s)
    ∙ carry-turn x k y c (weight c s) z (ev s z c)

pub shift-weight : (k c : ℤ) (s : List ℤ) → weight c (shift k s) ≡ weight c s
unfolding weight shift
shift-weight k c [] = refl
shift-weight k c (x ∷ s) = carry-weight k x c (shift k s) ∙ ap (λ (w : ℤ). c *ℤ w) (shift-weight k c s)

pub shift-ev : (k z c : ℤ) (s : List ℤ) → ev (shift k s) z c ≡ ev s (z +ℤ k *ℤ c) c
unfolding ev shift
shift-ev k z c [] = refl
shift-ev k z c (x ∷ s) =
    carry-ev k x z c (shift k s) ∙ ap₂ (λ (v w : ℤ). x *ℤ v +ℤ (z +ℤ k *ℤ c) *ℤ w) (shift-weight k c s) (shift-ev k z c s)

-- ---- one term more: k * s and, above it, the term 1

unfoldable pub next : ℤ → List ℤ → List ℤ
next k [] = pos 1 ∷ []
next k (x ∷ s) = (k *ℤ x) ∷ next k s

-- z ^ length
unfoldable pub power : ℤ → List ℤ → ℤ
power z [] = pos 1
power z (x ∷ s) = z *ℤ power z s

next-turn : (k x c w z e p : ℤ) → (k *ℤ x) *ℤ (c *ℤ w) +ℤ z *ℤ (k *ℤ c *ℤ e +ℤ p) ≡ k *ℤ c *ℤ (x *ℤ w +ℤ z *ℤ e) +ℤ z *ℤ p
next-turn k x c w z e p = simp ring

pub next-weight : (k c : ℤ) (s : List ℤ) → weight c (next k s) ≡ c *ℤ weight c s
unfolding weight next
next-weight k c [] = refl
next-weight k c (x ∷ s) = ap (λ (w : ℤ). c *ℤ w) (next-weight k c s)

pub next_power : (k z : ℤ) (s : List ℤ) → power z (next k s) ≡ z *ℤ power z s
unfolding power next
next_power k z [] = refl
next_power k z (x ∷ s) = ap (λ (w : ℤ). z *ℤ w) (next_power k z s)

pub next-ev : (k z c : ℤ) (s : List ℤ) → ev (next k s) z c ≡ k *ℤ c *ℤ ev s z c +ℤ power z s
unfolding ev next power
next-ev k z c [] = ap (λ (w : ℤ). pos 1 +ℤ w) (*ℤ-zero z) ∙ sym (ap (λ (w : ℤ). w +ℤ pos 1) (*ℤ-zero (k *ℤ c)))
next-ev k z c (x ∷ s) =
    ap₂ (λ (v w : ℤ). k *ℤ x *ℤ v +ℤ z *ℤ w) (next-weight k c s) (next-ev k z c s)
    ∙ next-turn k x c (weight c s) z (ev s z c) (power z s)

-- ---- a combination of two of one length, coefficient by coefficient

unfoldable pub combine : ℤ → List ℤ → ℤ → List ℤ → List ℤ
combine a [] b t = []
combine a (x ∷ s) b [] = []
combine a (x ∷ s) b (y ∷ t) = (a *ℤ x +ℤ b *ℤ y) ∷ combine a s b t

unfoldable pub alike : List ℤ → List ℤ → Bool
alike [] [] = true
alike [] (y ∷ t) = false
alike (x ∷ s) [] = false
alike (x ∷ s) (y ∷ t) = alike s t

combine-turn : (a x b y w z e f : ℤ)
    → (a *ℤ x +ℤ b *ℤ y) *ℤ w +ℤ z *ℤ (a *ℤ e +ℤ b *ℤ f) ≡ a *ℤ (x *ℤ w +ℤ z *ℤ e) +ℤ b *ℤ (y *ℤ w +ℤ z *ℤ f)
combine-turn a x b y w z e f = simp ring

alike-weight : (c : ℤ) (s t : List ℤ) → alike s t ≡ true → weight c t ≡ weight c s
unfolding weight alike
alike-weight c [] [] h = refl
alike-weight c [] (y ∷ t) h = absurd (false≢true h)
alike-weight c (x ∷ s) [] h = absurd (false≢true h)
alike-weight c (x ∷ s) (y ∷ t) h = ap (λ (w : ℤ). c *ℤ w) (alike-weight c s t h)

combine-weight : (a b c : ℤ) (s t : List ℤ) → alike s t ≡ true → weight c (combine a s b t) ≡ weight c s
unfolding weight alike combine
combine-weight a b c [] t h = refl
combine-weight a b c (x ∷ s) [] h = absurd (false≢true h)
combine-weight a b c (x ∷ s) (y ∷ t) h = ap (λ (w : ℤ). c *ℤ w) (combine-weight a b c s t h)

pub combine-ev : (a b z c : ℤ) (s t : List ℤ) → alike s t ≡ true → ev (combine a s b t) z c ≡ a *ℤ ev s z c +ℤ b *ℤ ev t z c
unfolding ev alike combine
combine-ev a b z c [] [] h = sym (ap₂ ◌+ℤ◌ (*ℤ-zero a) (*ℤ-zero b))
combine-ev a b z c [] (y ∷ t) h = absurd (false≢true h)
combine-ev a b z c (x ∷ s) [] h = absurd (false≢true h)
combine-ev a b z c (x ∷ s) (y ∷ t) h =
    ap₂ (λ (v w : ℤ). (a *ℤ x +ℤ b *ℤ y) *ℤ v +ℤ z *ℤ w) (combine-weight a b c s t h) (combine-ev a b z c s t h)
    ∙ combine-turn a x b y (weight c s) z (ev s z c) (ev t z c)
    ∙ ap (λ (v : ℤ). a *ℤ (x *ℤ weight c s +ℤ z *ℤ ev s z c) +ℤ b *ℤ (y *ℤ v +ℤ z *ℤ ev t z c)) (sym (alike-weight c s t h))

-- ---- how large it is where |z| is at most 8 * c

unfoldable pub size : List ℤ → ℕ
size [] = 0
size (x ∷ s) = nat_abs x + 8 * size s

unfoldable pub weightℕ : ℕ → List ℤ → ℕ
weightℕ c [] = 1
weightℕ c (x ∷ s) = c * weightℕ c s

pub weight-pos : (c : ℕ) (s : List ℤ) → weight (pos c) s ≡ pos (weightℕ c s)
unfolding weight weightℕ
weight-pos c [] = refl
weight-pos c (x ∷ s) = ap (λ (w : ℤ). pos c *ℤ w) (weight-pos c s)

size-turn : (x w zn e c n : ℕ) → zn ≤ 8 * c → e * c ≤ w * n → (x * w + zn * e) * c ≤ c * w * (x + 8 * n)
size-turn x w zn e c n h k =
    let p = mul-le-mul_right (e * c) h in
    let q = mul-le-mul_left (8 * c) k in
    omega (arith, p, q)

pub size-bound : (z : ℤ) (c : ℕ) (s : List ℤ) → nat_abs z ≤ 8 * c → nat_abs (ev s z (pos c)) * c ≤ weightℕ c s * size s
unfolding ev weightℕ size
size-bound z c [] h = le_of_eq (zero-mul c)
size-bound z c (x ∷ s) h =
    let a = abs-add (x *ℤ weight (pos c) s) (z *ℤ ev s z (pos c)) in
    let e : nat_abs (x *ℤ weight (pos c) s) ≡ nat_abs x * weightℕ c s =
    abs-mul x (weight (pos c) s) ∙ ap (λ (w : ℤ). nat_abs x * nat_abs w) (weight-pos c s) in
    let f = abs-mul z (ev s z (pos c)) in
    le_trans (mul-le-mul_right c (rw (e, f) at a))
    (size-turn (nat_abs x) (weightℕ c s) (nat_abs z) (nat_abs (ev s z (pos c))) c (size s) h (size-bound z c s h))
