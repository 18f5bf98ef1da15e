-- Tracing a limit back ends: the place named for a limit is an input, or a step that is no shift and none of whose
-- operands has that limit.
use Prim.Native.Nat.{ℕ, zero, suc, ◌+◌, ◌≤◌, ◌<◌}
use Rattle.std.specs.Prelude.{Bool, true, false, ◌&&◌, List, ◌≡◌, leb, ltb, eqb}
use Rattle.std.proofs.Math.Path.{refl, ap}
use Rattle.std.proofs.Common.{◌∙◌, arith, leb-true, ltb-true, ltb-false, eq-eqb}
use Rattle.lists.specs.Test.{decide, and_left, and_right}
use Rattle.lists.specs.Walk.{walk}
use Rattle.model.specs.declared.Header.{Header}
use Rattle.model_recipes.specs.Steps.{step_of, rows, uses_of}
use Rattle.model_recipes.specs.Check.{lowers}
use Rattle.model_texts.specs.Trace.{uses_in, step_word, shifts_in, has, limit_at, equals, follow, decider}
use Rattle.report_trace.specs.Laws.{Operand, first, second}

-- of the first n places: each operand of a step stands before it
pub record Ordered (ss : List ℕ) (inputs n : ℕ) : Type 0 where
  pub before : (p x : ℕ) → inputs ≤ p → p < n → Operand (step_word ss inputs p) x → x < p

-- kinds 7, 8 and 9 use their first operand
kind-uses : (k : ℕ) → 7 ≤ k → k ≤ 9 → (uses_of k).a ≡ true
unfolding rows
kind-uses (suc (suc (suc (suc (suc (suc (suc zero))))))) a b = refl
kind-uses (suc (suc (suc (suc (suc (suc (suc (suc zero)))))))) a b = refl
kind-uses (suc (suc (suc (suc (suc (suc (suc (suc (suc zero))))))))) a b = refl
kind-uses (suc (suc (suc (suc (suc (suc (suc (suc (suc (suc k)))))))))) a b = absurd (omega arith)
kind-uses zero a b = absurd (omega arith)
kind-uses (suc zero) a b = absurd (omega arith)
kind-uses (suc (suc zero)) a b = absurd (omega arith)
kind-uses (suc (suc (suc zero))) a b = absurd (omega arith)
kind-uses (suc (suc (suc (suc zero)))) a b = absurd (omega arith)
kind-uses (suc (suc (suc (suc (suc zero))))) a b = absurd (omega arith)
kind-uses (suc (suc (suc (suc (suc (suc zero)))))) a b = absurd (omega arith)

pub shift-uses : (v w : ℕ) → shifts_in v w ≡ true → (uses_in w).a ≡ true
unfolding shifts_in
shift-uses v w e =
    let s = and_left (lowers (step_of w)) (eqb (step_of w).variable v) e in
    kind-uses (step_of w).kind (leb-true _ _ (and_left (leb 7 (step_of w).kind) (leb (step_of w).kind 9) s))
    (leb-true _ _ (and_right (leb 7 (step_of w).kind) (leb (step_of w).kind 9) s))

module _ (known : List Header) (v : ℕ) (ss : List ℕ) (inputs : ℕ) where
  -- an input, or a step that is no shift in the variable and none of whose operands has the variable and the limit
  pub data Ends (p : ℕ) : Type 0 where
    input : p < inputs → Ends p
    step : shifts_in v (step_word ss inputs p) ≡ false
        → ((x : ℕ) → Operand (step_word ss inputs p) x → has known v x ≡ true
        → limit_at known v x ≡ limit_at known v p → ⊥) → Ends p

  -- one step back goes to an operand, or nowhere
  data Followed (p : ℕ) : Type 0 where
    stays : Ends p → follow known v ss inputs p ≡ p → Followed p
    goes : inputs ≤ p → Operand (step_word ss inputs p) (follow known v ss inputs p) → Followed p

  not-true : {b : Bool} → b ≡ false → b ≡ true → ⊥
  not-true {b} f t = let z : ◌≡◌ {A = ℕ} 0 1 = cc in omega (arith, z)

  -- an operand with the variable and the limit is one that is followed
  equal-to : (p : ℕ) (used : Bool) (x : ℕ) → used ≡ true → has known v x ≡ true → limit_at known v x ≡ limit_at known v p → equals known v p used x ≡ true
  equal-to p used x u h e = rw (u, h, eq-eqb _ _ e)

  used-of : (p : ℕ) (used : Bool) (x : ℕ) → equals known v p used x ≡ true → used ≡ true
  used-of p used x e = and_left used (has known v x) (and_left (used && has known v x) (eqb (limit_at known v x) (limit_at known v p)) e)

  nowhere : (p : ℕ) → equals known v p (uses_in (step_word ss inputs p)).a (step_of (step_word ss inputs p)).a ≡ false
      → equals known v p (uses_in (step_word ss inputs p)).b (step_of (step_word ss inputs p)).b ≡ false
      → (x : ℕ) → Operand (step_word ss inputs p) x → has known v x ≡ true → limit_at known v x ≡ limit_at known v p → ⊥
  nowhere p a b x (first u e) h l = not-true a (equal-to p _ _ u (rw e at h) (rw e at l))
  nowhere p a b x (second u e) h l = not-true b (equal-to p _ _ u (rw e at h) (rw e at l))

  followed : (p : ℕ) → Followed p
  unfolding follow
  followed p =
      let w = step_word ss inputs p in
      decide (ltb p inputs)
      (λ i. stays (input (ltb-true _ _ i)) (rw i))
      (λ i.
      decide (shifts_in v w)
      (λ z. goes (ltb-false _ _ i) (first (shift-uses v w z) (rw (i, z))))
      (λ z.
      decide (equals known v p (uses_in w).a (step_of w).a)
      (λ t. goes (ltb-false _ _ i) (first (used-of p _ _ t) (rw (i, z, t))))
      (λ t.
      decide (equals known v p (uses_in w).b (step_of w).b)
      (λ r. goes (ltb-false _ _ i) (second (used-of p _ _ r) (rw (i, z, t, r))))
      (λ r. stays (step z (nowhere p t r)) (rw (i, z, t, r))))))

  -- n steps back from p to q: it has ended, or it is n places further back
  data Reached (n p q : ℕ) : Type 0 where
    ended : Ends q → Reached n p q
    further : q + n ≤ p → Reached n p q

  walk-stays : (n k p : ℕ) → follow known v ss inputs p ≡ p → walk (λ j. follow known v ss inputs) n k p ≡ p
  unfolding walk
  walk-stays zero k p e = refl
  walk-stays (suc n) k p e = ap (walk (λ j. follow known v ss inputs) n (suc k)) e ∙ walk-stays n (suc k) p e

  one_further : {n p x q : ℕ} → x < p → Reached n x q → Reached (suc n) p q
  one_further l (ended e) = ended e
  one_further l (further h) = further (omega arith)

  module _ {m : ℕ} (o : Ordered ss inputs m) where
    reached : (n k p : ℕ) → p < m → Reached n p (walk (λ j. follow known v ss inputs) n k p)
    unfolding walk
    reached zero k p l = further (omega arith)
    reached (suc n) k p l = onward n k p l (λ x h. reached n (suc k) x h) (followed p)
      where
        onward : (n k p : ℕ) → p < m → ((x : ℕ) → x < m → Reached n x (walk (λ j. follow known v ss inputs) n (suc k) x)) → Followed p
            → Reached (suc n) p (walk (λ j. follow known v ss inputs) (suc n) k p)
        onward n k p l r (stays e s) = rw (walk-stays (suc n) k p s) (ended e)
        onward n k p l r (goes i x) = let d = o.before p _ i l x in one_further d (r (follow known v ss inputs p) (omega arith))

    ends : {p q : ℕ} → p < 64 → Reached 64 p q → Ends q
    ends l (ended e) = e
    ends l (further h) = absurd (omega arith)

    -- of at most 64 places
    pub decider-ends : m ≤ 64 → (p : ℕ) → p < m → Ends (decider known v ss inputs p)
    unfolding decider
    decider-ends few p l = ends (omega arith) (reached 64 0 p l)

    -- one step back goes to an earlier place, or stays
    pub follow-before : (p : ℕ) → p < m → follow known v ss inputs p ≤ p
    follow-before p l = before p l (followed p)
      where
        before : (p : ℕ) → p < m → Followed p → follow known v ss inputs p ≤ p
        before p l (stays e s) = omega (arith, s)
        before p l (goes i x) = let d = o.before p _ i l x in omega arith
