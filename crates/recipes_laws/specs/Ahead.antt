-- A run after an accepted check, step by step: the values follow what was announced, and every step has what its
-- operation asks for.
use Rattle.std.specs.Prelude.{ℕ, zero, suc, ◌+◌, ◌*◌, ◌≤◌, ◌<◌, true, List, [], ◌∷◌, ◌++◌, ◌≡◌, ltb, leb, length, take, drop, get_or, Float}
use Rattle.std.proofs.Common.{sym, ap, ◌∙◌, arith, le_trans, length-drop, get_or-drop, leb-true}
use Rattle.std.proofs.Math.ListN.{length-map}
use Rattle.lists.specs.Chain.{chain, chain-at, length-chain}
use Rattle.model.specs.declared.Header.{Header}
use Rattle.model.specs.declared.Refusal.{Refusal}
use Rattle.model.specs.Header.{limit, stored, no_header}
use Rattle.model.specs.Word.{header_of}
use Rattle.model.specs.Refusals.{no_refusal}
use Rattle.model.specs.Poly.{Poly}
use Rattle.model_recipes.specs.Steps.{step_of}
use Rattle.model_recipes.specs.Recipe.{Recipe, up_to, family_of, head_at, announced_step, input_heads, announced_places, announced_steps, total, largest}
use Rattle.model_recipes.specs.Check.{ask_at, formed, step_refusal, check_refusal}
use Rattle.model_recipes.specs.Run.{input_values, no_value, value_at, step_value, values}
use Rattle.shape.specs.Under.{announced-under, count_under}
use Rattle.shape.specs.Keeps.{Keeps, keeps-good}
use Rattle.recipes_check.specs.Asks.{ask-none}
use Rattle.recipes_check.specs.Judged.{accepts}
use Rattle.recipes_laws.specs.Outcome.{ClearSteps, Outcome, by_sizes, at_input, at_step, not_refused, outcome}
use Rattle.recipes_laws.specs.Follows.{Follows, step_keeps, follows-more, length-inputs, inputs-follow}
use Rattle.recipes_laws.specs.Passed.{StepReady, in_limit}

-- ---- one step

-- what the check has tested of a step that it does not refuse
pub record Clear (ed w : ℕ) (known : List Header) : Type 0 where
  pub formed : formed w (length known) ≡ true
  pub variable : in_limit (step_of w).kind (ltb (step_of w).variable (head_at known (step_of w).a).vars) ≡ true
  pub number : in_limit (step_of w).kind (ltb (step_of w).n (limit (head_at known (step_of w).a) (step_of w).variable)) ≡ true
  pub most : stored (announced_step ed w known) ≤ 4096

pub clear : (ed w : ℕ) (known : List Header) → (step_refusal ed w known).number ≡ 0 → Clear ed w known
unfolding step_refusal
clear ed w known e =
    let p = length known in
    let s = step_of w in
    let t3 = in_limit s.kind (ltb s.variable (head_at known s.a).vars) in
    let t4 = in_limit s.kind (ltb s.n (limit (head_at known s.a) s.variable)) in
    let t5 = leb (stored (announced_step ed w known)) 4096 in
    let r5 : Refusal = ask_at t5 5 p no_refusal in
    let r4 : Refusal = ask_at t4 4 p r5 in
    let r3 : Refusal = ask_at t3 3 p r4 in
    let e7 = ask-none (formed w p) p r3 (λ z. omega (arith, z)) e in
    let e3 = ask-none t3 p r4 (λ z. omega (arith, z)) e7.1 in
    let e4 = ask-none t4 p r5 (λ z. omega (arith, z)) e3.1 in
    let e5 = ask-none t5 p no_refusal (λ z. omega (arith, z)) e4.1 in
    record { formed = e7.0; variable = e3.0; number = e4.0; most = leb-true _ _ e5.0 }

-- it has all that its operation asks for: n places for the result, m of scratch, as many as it announces at least
pub step-ready : (ed w : ℕ) {known : List Header} {vs : List Poly} → Follows known vs → Clear ed w known → {n m : ℕ} → stored (announced_step ed w known) ≤ n
    → 8 * stored (announced_step ed w known) ≤ m → StepReady ed w vs n m
unfolding announced_step
step-ready ed w f c x y =
    let s = step_of w in
    let a = f.keeps s.a in
    let b = f.keeps s.b in
    let u = count_under (announced-under (family_of ed s) a.regular.rules b.regular.rules a.under b.under) in
    record {
      a = record { good = keeps-good (f.good.at s.a) a; full = a.full };
      b = record { good = keeps-good (f.good.at s.b) b; full = b.full };
      room = record { most = le_trans u c.most; fits = le_trans u x; spare = omega (arith, u, y) };
      variable = rw a.under.vars c.variable;
      number = rw a.under.limits c.number;
    }

-- ---- the steps ws that are ahead, m the places of scratch

pub record Ahead (ed m : ℕ) (known : List Header) (vs : List Poly) (ws : List ℕ) : Type 0 where
  pub now : Follows known vs
  pub clear : ClearSteps ed known ws (length ws)
  pub room : (i : ℕ) → i < length ws → 8 * stored (announced_step ed (get_or ws i 0) (chain (announced_step ed) known (take i ws))) ≤ m

module _ {ed m : ℕ} {known : List Header} {vs : List Poly} (w : ℕ) (ws : List ℕ) (a : Ahead ed m known vs (w ∷ ws)) where
  first-clear : Clear ed w known
  unfolding chain
  first-clear = clear ed w known (a.clear 0 (omega arith))

  pub ahead-next : Ahead ed m (known ++ (announced_step ed w known ∷ [])) (vs ++ (step_value ed w vs ∷ [])) ws
  unfolding chain
  ahead-next =
      record {
        now = follows-more ed w a.now first-clear.most;
        clear = λ j l. a.clear (suc j) (omega arith);
        room = λ i l. a.room (suc i) (omega arith);
      }

-- after i steps
pub ahead_after : {ed m : ℕ} {known : List Header} {vs : List Poly} (ws : List ℕ) → Ahead ed m known vs ws → (i : ℕ)
    → Ahead ed m (chain (announced_step ed) known (take i ws)) (chain (step_value ed) vs (take i ws)) (drop i ws)
unfolding chain
ahead_after ws a zero = a
ahead_after [] a (suc i) = a
ahead_after {ed = ed} {known = known} {vs = vs} (w ∷ ws) a (suc i) =
    ahead_after {known = known ++ (announced_step ed w known ∷ [])} {vs = vs ++ (step_value ed w vs ∷ [])} ws (ahead-next w ws a) i

-- ---- a recipe, cs its inputs' coefficients

-- a step's place, made from the places before it
chain-step : {A : Type 0} (s : ℕ → List A → A) (d : A) (xs : List A) (n : ℕ) (ss : List ℕ) (i : ℕ) → length xs ≡ n → i < length ss
    → get_or (chain s xs ss) (n + i) d ≡ s (get_or ss i 0) (chain s xs (take i ss))
chain-step s d xs n ss i e l = ap (λ (k : ℕ). get_or (chain s xs ss) (k + i) d) (sym e) ∙ chain-at s d 0 xs ss i l

module _ (it : Recipe) (i : ℕ) (l : i < length it.steps) where
  pub announced-at : head_at (announced_places it) (length it.headers + i) ≡ announced_step it.edition (get_or it.steps i 0) (announced_places (up_to it i))
  unfolding announced_places
  announced-at = chain-step (announced_step it.edition) no_header (input_heads it.headers) (length it.headers) it.steps i
      (length-map it.headers header_of) l

  pub value_at_lem : (cs : List Float) → value_at (values it cs) (length it.headers + i) ≡ step_value it.edition (get_or it.steps i 0) (values (up_to it i) cs)
  unfolding values
  value_at_lem cs = chain-step (step_value it.edition) no_value (input_values it.headers cs) (length it.headers) it.steps i
      (length-inputs it.headers cs ∙ length-map it.headers header_of) l

pub length-announced : (it : Recipe) → length (announced_steps it) ≡ length it.steps
unfolding announced_steps announced_places
length-announced it =
    omega (
      arith,
      length-drop (length it.headers) (chain (announced_step it.edition) (input_heads it.headers) it.steps),
      length-chain (announced_step it.edition) (input_heads it.headers) it.steps,
      length-map it.headers header_of,
    )

below-largest : (known : List Header) (p : ℕ) → p < length known → stored (head_at known p) ≤ largest known
unfolding largest
below-largest [] p l = absurd (omega arith)
below-largest (h ∷ known) zero l = omega arith
below-largest (h ∷ known) (suc p) l = let q = below-largest known p (omega arith) in omega arith

pub step-largest : (it : Recipe) (i : ℕ) → i < length it.steps
    → stored (announced_step it.edition (get_or it.steps i 0) (announced_places (up_to it i))) ≤ largest (announced_steps it)
unfolding announced_steps
step-largest it i l =
    rw (← announced-at it i l, ← get_or-drop (length it.headers) (announced_places it) i no_header)
    (below-largest (announced_steps it) i (omega (arith, length-announced it)))

not_refused-clear : {it : Recipe} {r : Refusal} → Outcome it r → r.number ≡ 0
    → ClearSteps it.edition (input_heads it.headers) it.steps (length it.steps)
not_refused-clear (by_sizes x) e = absurd (omega (arith, e))
not_refused-clear (at_input i s l g b) e = absurd (omega (arith, e))
not_refused-clear (at_step i r s g q l c n) e = absurd (n e)
not_refused-clear (not_refused s g c) e = c

module _ (it : Recipe) (cs : List Float) {m : ℕ} (none : (check_refusal it).number ≡ 0) (full : total (input_heads it.headers) ≤ length cs)
    (room : 8 * largest (announced_steps it) ≤ m) where
  pub ahead : Ahead it.edition m (input_heads it.headers) (input_values it.headers cs) it.steps
  unfolding announced_places
  ahead =
      record {
        now = inputs-follow it.headers cs (accepts it none).inputs full;
        clear = not_refused-clear (outcome it) none;
        room = λ i l. omega (arith, step-largest it i l);
      }

  -- after i steps
  pub ahead-at : (i : ℕ) → Ahead it.edition m (announced_places (up_to it i)) (values (up_to it i) cs) (drop i it.steps)
  unfolding announced_places values
  ahead-at i = ahead_after it.steps ahead i

  module _ (i : ℕ) (l : i < length it.steps) where
    pub clear_at_lem : Clear it.edition (get_or it.steps i 0) (announced_places (up_to it i))
    unfolding announced_places
    clear_at_lem = clear it.edition (get_or it.steps i 0) (announced_places (up_to it i)) (ahead.clear i l)

    -- the next step has all that its operation asks for
    pub ready_at : StepReady it.edition (get_or it.steps i 0) (values (up_to it i) cs)
        (stored (announced_step it.edition (get_or it.steps i 0) (announced_places (up_to it i)))) m
    unfolding announced_places
    ready_at = step-ready it.edition (get_or it.steps i 0) (ahead-at i).now clear_at_lem (omega arith) (ahead.room i l)

    pub keeps_at_lem : Keeps (announced_step it.edition (get_or it.steps i 0) (announced_places (up_to it i)))
        (step_value it.edition (get_or it.steps i 0) (values (up_to it i) cs))
    keeps_at_lem = step_keeps it.edition (get_or it.steps i 0) (ahead-at i).now
