-- Of an accepted recipe: a place leaves nothing out exactly where each of its full lengths is 1 at least and keeps to
-- the limit. So inputs leave nothing out, and a negation and the shifts leave nothing out where their operand does not.
use Prim.Native.Nat.{ℕ, ◌-◌, ◌≤◌, ◌<◌}
use Rattle.std.proofs.Math.Bool.{Bool, false}
use Rattle.std.specs.Prelude.{true, cond, ◌||◌, List, refl, eqb, length}
use Rattle.std.proofs.lemmas.Bool.{false≢true}
use Rattle.std.proofs.Math.Path.{◌≡◌, ap}
use Rattle.std.proofs.Common.{sym, ◌∙◌, lit<, get_or-take}
use native.Mathlib.Omega.{arith}
use Rattle.std.proofs.Math.Dec.{ltb}
use Rattle.std.proofs.Math.ListN.{take}
use borrow.Author.Tests.{ltb-false, le-ltb, eqb-true, eqb-false, ne_eqb}
use Rattle.lists.specs.Test.{decide, and_left}
use Rattle.lists.specs.Four.{each, at-four}
use Rattle.model.specs.declared.Header.{Header}
use Rattle.model.specs.declared.Family.{Family}
use Rattle.model.specs.declared.Family.TheVariants.{Same, Power, Shift}
use Rattle.model.specs.Header.{limit, no_header}
use Rattle.model.specs.Announced.{less_in, single, announced}
use Rattle.model_recipes.specs.Kinds.{idle}
use Rattle.model_recipes.specs.Recipe.{Recipe, families, family_of, head_at, announced_step}
use Rattle.model_recipes.specs.Check.{check_refusal}
use Rattle.model_texts.specs.Trace.{has}
use Rattle.model_texts.specs.Full.{many, counted, endless, shift_full, full_after}
use Rattle.model_texts.specs.Whole.{passes, leaves_out}
use Rattle.recipes_laws.specs.Editions.{idle_step, same-family}
use Rattle.laws_full.specs.Places.{full-input, full-step}
use Rattle.laws_full.specs.Setting.{size, known, head, lengths, full, step, out}
use Rattle.laws_full.specs.Chained.{head_step}
use Rattle.laws_full.specs.Lacking.{good}

pub or-first : (a b : Bool) → (a || b) ≡ false → a ≡ false
or-first true b h = h
or-first false b h = refl

pub or-second : (a b : Bool) → (a || b) ≡ false → b ≡ false
or-second true b h = absurd (false≢true (sym h))
or-second false b h = h

module _ (it : Recipe) (z : (check_refusal it).number ≡ 0) where
  -- the full length of the place p in the variable w keeps to the limit
  pub record Fits (p w : ℕ) : Type 0 where
    pub some : 1 ≤ full it p w
    pub most : full it p w ≤ limit (head it p) w

  -- ---- the test, in all four variables

  pub none_passed : (p : ℕ) → out it p ≡ false → (w : ℕ) → w < 4 → passes (known it) (lengths it) p w ≡ false
  unfolding leaves_out
  none_passed p e =
      let t : ℕ → Bool = passes (known it) (lengths it) p in
      let l = or-first (t 0 || t 1) (t 2 || t 3) e in
      let r = or-second (t 0 || t 1) (t 2 || t 3) e in
      each (λ w. t w ≡ false) (or-first (t 0) (t 1) l) (or-second (t 0) (t 1) l) (or-first (t 2) (t 3) r)
      (or-second (t 2) (t 3) r)

  not-passed : (p w : ℕ) → Fits p w → passes (known it) (lengths it) p w ≡ false
  unfolding passes
  not-passed p w f =
      let t : (endless (full it p w) || ltb (limit (head it p) w) (full it p w)) ≡ false =
      rw (ne_eqb (full it p w) 0 (λ e. omega (arith, f.some)), le-ltb _ _ f.most) in
      decide (has (known it) w p) (λ u. rw (u, t)) (λ u. rw u)

  pub fits_out : (p : ℕ) → ((w : ℕ) → w < 4 → Fits p w) → out it p ≡ false
  unfolding leaves_out
  fits_out p f =
      let n : (w : ℕ) → w < 4 → passes (known it) (lengths it) p w ≡ false = λ w l. not-passed p w (f w l) in
      rw (n 0 (lit< tt), n 1 (lit< tt), n 2 (lit< tt), n 3 (lit< tt))

  -- ---- places that leave nothing out

  pub input-fits : (p : ℕ) → p < length it.headers → out it p ≡ false
  input-fits p t =
      fits_out p (λ w m.
      let g = good it z p w m in
      let e = full-input (known it) it.steps (length it.headers) (size it) p w t (omega arith) m in
      record { some = omega (arith, g.pos); most = omega (arith, g.fit) })

  -- a step whose operand leaves nothing out
  module _ (p : ℕ) (i : length it.headers ≤ p) (l : p < size it) (b : (step it p).a < p)
      (e : out it (step it p).a ≡ false) where
    abbrev pub operand : Header
    operand = head it (step it p).a

    pub head-is : (f : Family) → family_of it.edition (step it p) ≡ f
        → head it p ≡ announced f operand (head_at (take p (known it)) (step it p).b)
    unfolding announced_step
    head-is f k =
        let before = take p (known it) in
        let other = head_at before (step it p).b in
        head_step it p i l
        ∙ ap (λ (h : Header). announced (family_of it.edition (step it p)) h other)
        (get_or-take p (known it) (step it p).a no_header b)
        ∙ ap (λ (g : Family). announced g operand other) k

    -- it is no power, so that its edition does not matter
    pub in-edition : (f : Family) → family_of 0 (step it p) ≡ f → ((n : ℕ) → Power n ≡ f → ⊥) → family_of it.edition (step it p) ≡ f
    unfolding families
    in-edition f k other =
        decide (idle_step it.edition (step it p))
        (λ t.
        let six : (step it p).kind ≡ 6 = eqb-true _ _ (and_left (eqb (step it p).kind 6) (idle it.edition (step it p).n) t) in
        absurd (other (step it p).n (rw six at k)))
        (λ t. same-family it.edition (step it p) t ∙ k)

    -- what a shift takes off a full length it takes off the limit
    pub shift-fits-at : (v n w x : ℕ) → 1 ≤ x → x ≤ limit operand w → limit operand w ≤ 64
        → (1 ≤ counted (cond (eqb w v) (shift_full n x) x)) ×
        (counted (cond (eqb w v) (shift_full n x) x) ≤ less_in v n w (limit operand w))
    unfolding shift_full
    shift-fits-at v n w x a c d =
        decide (eqb w v)
        (λ t. rw (t, ne_eqb x 0 (λ e. omega arith), ne_eqb x many (λ e. omega arith)) (omega arith, omega arith))
        (λ t. rw t (omega arith, omega arith))
