-- What the report says of a limit that falls is so: it is told exactly where a limit is below an operand's, and not by
-- a shift.
use Rattle.std.specs.Prelude.{ℕ, ◌<◌, ◌&&◌, ◌||◌, cond, List, ◌≡◌, ltb}
use Rattle.std.proofs.Math.Bool.{Bool, true, false, not}
use Rattle.std.proofs.Math.Path.{refl, sym}
use Rattle.std.proofs.Common.{ap, arith, ltb-true, lt-ltb}
use Rattle.lists.specs.Test.{decide, and_left, and_right}
use Rattle.model.specs.declared.Header.{Header}
use Rattle.model_recipes.specs.Steps.{step_of}
use Rattle.model_texts.specs.Trace.{uses_in, shifts_in, has, limit_at, cut_from, is_cut, cut_operand}

-- x is an operand of the step w: one that its kind uses
pub data Operand (w x : ℕ) : Type 0 where
  first : (uses_in w).a ≡ true → x ≡ (step_of w).a → Operand w x
  second : (uses_in w).b ≡ true → x ≡ (step_of w).b → Operand w x

module _ (known : List Header) (v : ℕ) where
  -- the place p ends before its operand x, and both have the variable
  pub record Below (p x : ℕ) : Type 0 where
    pub here : has known v p ≡ true
    pub there : has known v x ≡ true
    pub less : limit_at known v p < limit_at known v x

  below-from : (p : ℕ) (used : Bool) (x : ℕ) → has known v p ≡ true → cut_from known v p used x ≡ true → (used ≡ true) × Below p x
  below-from p used x h e =
      let a = and_left (used && has known v x) (ltb (limit_at known v p) (limit_at known v x)) e in
      let b = and_right (used && has known v x) (ltb (limit_at known v p) (limit_at known v x)) e in
      (and_left used (has known v x) a, record { here = h; there = and_right used (has known v x) a; less = ltb-true _ _ b })

  from-below : (p : ℕ) (used : Bool) (x : ℕ) → used ≡ true → Below p x → cut_from known v p used x ≡ true
  from-below p used x u b = rw (u, b.there, lt-ltb _ _ b.less)

  or-true : (a b : Bool) → (a || b) ≡ true → (a ≡ false) → b ≡ true
  or-true true b e f = let y : ◌≡◌ {A = ℕ} 0 1 = ap (λ (z : Bool). cond z 0 1) f in absurd (omega (arith, y))
  or-true false b e f = e

  -- a fall is reported where the limit is below that of the operand that is named, and never of a shift
  pub cut-is : (w p : ℕ) → is_cut known v w p ≡ true
      → (shifts_in v w ≡ false) × (Operand w (cut_operand known v w p) × Below p (cut_operand known v w p))
  unfolding is_cut cut_operand
  cut-is w p e =
      let x : Bool = cut_from known v p (uses_in w).a (step_of w).a in
      let y : Bool = cut_from known v p (uses_in w).b (step_of w).b in
      let i = and_left (has known v p && not (shifts_in v w)) (x || y) e in
      let h = and_left (has known v p) (not (shifts_in v w)) i in
      let o = and_right (has known v p && not (shifts_in v w)) (x || y) e in (
        not-true (shifts_in v w) (and_right (has known v p) (not (shifts_in v w)) i),
        decide x
            (λ t. let b = below-from p (uses_in w).a (step_of w).a h t in rw t (first b.0 refl, b.1))
            (λ t. let b = below-from p (uses_in w).b (step_of w).b h (or-true x y o t) in rw t (second b.0 refl, b.1)),
      )
    where
      not-true : (b : Bool) → not b ≡ true → b ≡ false
      not-true true e = sym e
      not-true false e = refl

  -- and wherever it is below that of any
  pub is_cut_lem : (w p x : ℕ) → shifts_in v w ≡ false → Operand w x → Below p x → is_cut known v w p ≡ true
  unfolding is_cut
  is_cut_lem w p x n (first u e) b =
      let c : cut_from known v p (uses_in w).a (step_of w).a ≡ true =
      from-below p (uses_in w).a (step_of w).a u (rw e at b) in
      rw (b.here, n, c)
  is_cut_lem w p x n (second u e) b =
      let c : cut_from known v p (uses_in w).b (step_of w).b ≡ true =
      from-below p (uses_in w).b (step_of w).b u (rw e at b) in
      decide (cut_from known v p (uses_in w).a (step_of w).a) (λ t. rw (b.here, n, t)) (λ t. rw (b.here, n, t, c))
