-- The answers of a step's gate in the edition ed, by the tests that led to each. ws: the words that the places before
-- the step announce.
use Rattle.std.specs.Prelude.{Bool, true, false, ◌&&◌, cond, List, map, ◌≡◌, ℕ, ◌≤◌, ◌<◌, ltb, eqb, length}
use Rattle.std.proofs.Math.Path.{sym}
use Rattle.std.proofs.Common.{ap, ◌∙◌}
use Rattle.std.specs.Int.Bits.{bit_and}
use Rattle.std.proofs.lemmas.Nat.{and_mask}
use Rattle.std.proofs.lemmas.List.{length-map}
use borrow.Author.Tests.{le-leb, lt-leb}
use Rattle.model.specs.declared.Header.{Header}
use Rattle.model_recipes.specs.declared.Step.{Step}
use Rattle.model_recipes.specs.declared.Uses.{Uses}
use Rattle.model.specs.Header.{limit, stored}
use Rattle.model.specs.Word.{header_of}
use Rattle.model.specs.Refusals.{refused_at, no_refusal}
use Rattle.model_recipes.specs.Steps.{step_of, uses_of}
use Rattle.model_recipes.specs.Recipe.{head_at, announced_step}
use Rattle.model_recipes.specs.Check.{named_before, zero_unless, formed, lowers, step_refusal}

pub formed-is : (w p : ℕ) {s : Step} {u : Uses} {a b v n : Bool} → s ≡ step_of w → u ≡ uses_of s.kind
    → a ≡ named_before p u.a s.a → b ≡ named_before p u.b s.b
    → v ≡ zero_unless u.variable s.variable → n ≡ zero_unless u.n s.n → (((((u.kind && a) && b) && v) && n) && eqb (bit_and w 16383) 0) ≡ formed w p
unfolding formed
formed-is w p p0 p1 p2 p3 p4 p5 = simp (p5, p4, p3, p2, p1, p0, and_mask w 14)

module _ (ed w p : ℕ) (ws : List ℕ) {f : Bool} (e : p ≡ length ws) (t : f ≡ formed w p) where
  place : length (map header_of ws) ≡ p
  place = length-map ws header_of ∙ sym e

  pub gate_7 : f ≡ false → refused_at 7 p ≡ step_refusal ed w (map header_of ws)
  unfolding step_refusal
  gate_7 h = simp (place, sym t ∙ h)

  module _ (h : f ≡ true) {s : Step} {a : Header} {v : Bool} (es : s ≡ step_of w) (ea : a ≡ head_at (map header_of ws) s.a)
      (tv : v ≡ cond (lowers s) (ltb s.variable a.vars) true) where
    variable : v ≡ cond (lowers (step_of w)) (ltb (step_of w).variable (head_at (map header_of ws) (step_of w).a).vars) true
    variable = simp (tv, ea, es)

    pub gate_3 : v ≡ false → refused_at 3 p ≡ step_refusal ed w (map header_of ws)
    unfolding step_refusal
    gate_3 hv = simp (place, sym t ∙ h, sym variable ∙ hv)

    module _ (hv : v ≡ true) {n : Bool} (tn : n ≡ cond (lowers s) (ltb s.n (limit a s.variable)) true) where
      number : n ≡ cond (lowers (step_of w)) (ltb (step_of w).n (limit (head_at (map header_of ws) (step_of w).a) (step_of w).variable)) true
      number = simp (tn, ea, es)

      pub gate_4 : n ≡ false → refused_at 4 p ≡ step_refusal ed w (map header_of ws)
      unfolding step_refusal
      gate_4 hn = simp (place, sym t ∙ h, sym variable ∙ hv, sym number ∙ hn)

      module _ (hn : n ≡ true) {g : Header} {k : ℕ} (eg : g ≡ announced_step ed w (map header_of ws)) (ek : k ≡ stored g) where
        counted : stored (announced_step ed w (map header_of ws)) ≡ k
        counted = sym (ek ∙ ap stored eg)

        pub gate_5 : 4096 < k → refused_at 5 p ≡ step_refusal ed w (map header_of ws)
        unfolding step_refusal
        gate_5 l = simp (place, sym t ∙ h, sym variable ∙ hv, sym number ∙ hn, counted, lt-leb _ _ l)

        pub gate-none : k ≤ 4096 → no_refusal ≡ step_refusal ed w (map header_of ws)
        unfolding step_refusal
        gate-none l = simp (place, sym t ∙ h, sym variable ∙ hv, sym number ∙ hn, counted, le-leb _ _ l)
