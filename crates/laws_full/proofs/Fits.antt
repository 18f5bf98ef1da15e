-- What rests on laws of specs/ (Fits).
use Prim.Native.Nat.{ℕ, ◌-◌, ◌≤◌, ◌<◌}
use Rattle.std.proofs.Math.Bool.{false}
use Rattle.std.specs.Prelude.{cond, ◌||◌, eqb, length}
use Rattle.std.proofs.Math.Path.{◌≡◌, ap}
use Rattle.std.proofs.Common.{◌∙◌}
use native.Mathlib.Omega.{arith}
use Rattle.std.proofs.Math.Dec.{ltb}
use borrow.Author.Tests.{ltb-false, eqb-false}
use Rattle.lists.specs.Test.{decide}
use Rattle.lists.specs.Four.{at-four}
use Rattle.model.specs.declared.Header.{Header}
use Rattle.model.specs.declared.Family.TheVariants.{Same, Shift}
use Rattle.model.specs.Header.{limit}
use Rattle.model.specs.Announced.{less_in, single, announced}
use Rattle.model_recipes.specs.Recipe.{Recipe, family_of}
use Rattle.model_recipes.specs.Check.{check_refusal}
use Rattle.model_texts.specs.Trace.{has}
use Rattle.model_texts.specs.Full.{counted, endless, shift_full, full_after}
use Rattle.model_texts.specs.Whole.{passes}
use Rattle.laws_full.specs.Places.{full-step}
use Rattle.laws_full.specs.Setting.{size, known, head, full, step, out}
use Rattle.laws_full.specs.Lacking.{good}
use Rattle.laws_full.proofs.Lacking.{lacking-one}
use Rattle.laws_full.specs.Fits.{Fits, fits_out, head-is, in-edition, none_passed, operand, or-first, or-second, shift-fits-at}

module _ (it : Recipe) (z : (check_refusal it).number ≡ 0) where
  pub out-fits : (p : ℕ) → p < size it → out it p ≡ false → (w : ℕ) → w < 4 → (Fits it z) p w
  unfolding passes
  out-fits p l e w m =
      let f : ℕ = full it p w in
      let k : ℕ = limit (head it p) w in
      decide (has (known it) w p)
      (λ t.
      let n : (endless f || ltb k f) ≡ false = rw t at ((none_passed it z) p e w m) in
      let o = eqb-false f 0 (or-first (endless f) (ltb k f) n) in
      record { some = omega arith; most = ltb-false k f (or-second (endless f) (ltb k f) n) })
      (λ t.
      let v = ltb-false w (head it p).vars t in
      let e = lacking-one it z p l w m v in
      record { some = omega arith; most = omega (arith, (good it z p w m).gone v) })

  -- a step whose operand leaves nothing out
  module _ (p : ℕ) (i : length it.headers ≤ p) (l : p < size it) (b : (step it p).a < p)
      (e : out it (step it p).a ≡ false) where
    pub operand-fits : (w : ℕ) → w < 4 → (Fits it z) (step it p).a w
    operand-fits = out-fits (step it p).a (omega arith) e

    pub negation-fits : family_of 0 (step it p) ≡ Same → out it p ≡ false
    unfolding announced single full_after
    negation-fits k =
        (fits_out it z) p (λ w m.
        let f = full-step (known it) it.steps (length it.headers) (size it) p w i l m in
        let r = operand-fits w m in
        let h : limit (head it p) w ≡ limit (operand it z p i l b e) w =
        ap (λ (x : Header). limit x w) ((head-is it z p i l b e) Same ((in-edition it z p i l b e) Same k (λ n e. let g : ◌≡◌ {A = ℕ} 0 1 =
        cc in omega (arith, g))))
        ∙ at-four (limit (operand it z p i l b e)) w m in
        let s : full it p w ≡ counted (full it (step it p).a w) = f.is ∙ rw (k, f.of_the_first b) in
        record { some = omega (arith, r.some); most = omega (arith, r.most) })

    pub shift_fits : (v n : ℕ) → family_of 0 (step it p) ≡ Shift v n → out it p ≡ false
    unfolding announced single full_after
    shift_fits v n k =
        (fits_out it z) p (λ w m.
        let f = full-step (known it) it.steps (length it.headers) (size it) p w i l m in
        let r = operand-fits w m in
        let x : ℕ = full it (step it p).a w in
        let h : limit (head it p) w ≡ less_in v n w (limit (operand it z p i l b e) w) =
        ap (λ (y : Header). limit y w) ((head-is it z p i l b e) (Shift v n) ((in-edition it z p i l b e) (Shift v n) k
        (λ n e. let g : ◌≡◌ {A = ℕ} 0 1 = cc in omega (arith, g))))
        ∙ at-four (λ w. less_in v n w (limit (operand it z p i l b e) w)) w m in
        let s : full it p w ≡ counted (cond (eqb w v) (shift_full n x) x) = f.is ∙ rw (k, f.of_the_first b) in
        let q = (shift-fits-at it z p i l b e) v n w x r.some r.most (good it z (step it p).a w m).most in
        record { some = rw s q.0; most = rw (s, h) q.1 })
