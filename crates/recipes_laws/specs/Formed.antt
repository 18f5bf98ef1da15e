-- Test 7 and document 01's reasons for it: the word of a step is well formed where nothing is wrong in it, and only
-- there.
use Rattle.std.specs.Prelude.{ℕ, ◌≤◌, ◌<◌, Bool, true, false, ◌&&◌, ◌≡◌, refl, leb, eqb}
use Rattle.std.proofs.Common.{sym, ◌∙◌, arith, ltb-true, ltb-false, leb-false, eqb-true}
use Rattle.std.proofs.Math.ListN.{get_or-map}
use Rattle.std.proofs.lemmas.Bool.{lt-leb, eqb-false}
use Rattle.lists.specs.Table.{table, table_at}
use Rattle.lists.specs.Test.{and_left, and_right, decide}
use Rattle.model_recipes.specs.declared.Uses.{Uses}
use Rattle.model_recipes.specs.Steps.{step_of, spare_of, rows, kindless, uses_of}
use Rattle.model_recipes.specs.Check.{named_before, zero_unless, formed}
use Rattle.model_recipes.specs.Reasons.{WrongWord, no_kind, late_a, late_b, unused_a, unused_b, unused_variable, unused_n, spare_bits}
use Rattle.recipes_kinds.specs.Known.{small-kind}
use Rattle.shape_words.specs.Faults.{not-both}

-- the table's rule: there are the kinds 0 to 11
kind-is : (k : ℕ) → k < 16 → (uses_of k).kind ≡ leb k 11
unfolding rows table
kind-is k h = sym (get_or-map (λ (u : Uses). u.kind) rows k kindless) ∙ table_at false (λ j. leb j 11) 16 k h

-- the six tests
pub record Tests (w p : ℕ) : Type 0 where
  pub kind : (uses_of (step_of w).kind).kind ≡ true
  pub a : named_before p (uses_of (step_of w).kind).a (step_of w).a ≡ true
  pub b : named_before p (uses_of (step_of w).kind).b (step_of w).b ≡ true
  pub variable : zero_unless (uses_of (step_of w).kind).variable (step_of w).variable ≡ true
  pub n : zero_unless (uses_of (step_of w).kind).n (step_of w).n ≡ true
  pub spare : eqb (spare_of w) 0 ≡ true

tests-formed : {w p : ℕ} → Tests w p → formed w p ≡ true
unfolding formed
tests-formed t = simp (t.kind, t.a, t.b, t.variable, t.n, t.spare)

pub formed-tests : (w p : ℕ) → formed w p ≡ true → Tests w p
unfolding formed
formed-tests w p e =
    let s = step_of w in
    let u = uses_of s.kind in
    let a = named_before p u.a s.a in
    let b = named_before p u.b s.b in
    let v = zero_unless u.variable s.variable in
    let n = zero_unless u.n s.n in
    let e5 = and_left ((((u.kind && a) && b) && v) && n) (eqb (spare_of w) 0) e in
    let e4 = and_left (((u.kind && a) && b) && v) n e5 in
    let e3 = and_left ((u.kind && a) && b) v e4 in
    let e2 = and_left (u.kind && a) b e3 in
    record {
      kind = and_left u.kind a e2;
      a = and_right u.kind a e2;
      b = and_right (u.kind && a) b e3;
      variable = and_right ((u.kind && a) && b) v e4;
      n = and_right (((u.kind && a) && b) && v) n e5;
      spare = and_right ((((u.kind && a) && b) && v) && n) (eqb (spare_of w) 0) e;
    }

-- what a test that fails says, and that one that holds says the opposite
named-wrong : {W : Type 0} (p : ℕ) (used : Bool) (x : ℕ) → named_before p used x ≡ false → (used ≡ true → p ≤ x → W) → (used ≡ false → 0 < x → W) → W
named-wrong p true x e f g = f refl (ltb-false _ _ e)
named-wrong p false x e f g = g refl (omega (arith, eqb-false x 0 e))

zero-wrong : {W : Type 0} (used : Bool) (x : ℕ) → zero_unless used x ≡ false → (used ≡ false → 0 < x → W) → W
zero-wrong true x e f = absurd (not-both true refl e)
zero-wrong false x e f = f refl (omega (arith, eqb-false x 0 e))

named_late : (p : ℕ) (used : Bool) (x : ℕ) → named_before p used x ≡ true → used ≡ true → p ≤ x → ⊥
named_late p true x e u l = omega (arith, ltb-true x p e)
named_late p false x e u l = not-both false u refl

named_unused : (p : ℕ) (used : Bool) (x : ℕ) → named_before p used x ≡ true → used ≡ false → 0 < x → ⊥
named_unused p true x e u l = not-both true refl u
named_unused p false x e u l = omega (arith, eqb-true x 0 e)

zero_unused : (used : Bool) (x : ℕ) → zero_unless used x ≡ true → used ≡ false → 0 < x → ⊥
zero_unused true x e u l = not-both true refl u
zero_unused false x e u l = omega (arith, eqb-true x 0 e)

module _ (w p : ℕ) where
  pub formed-right : formed w p ≡ true → WrongWord w p → ⊥
  formed-right e (no_kind l) = not-both _ (formed-tests w p e).kind (kind-is _ (small-kind w) ∙ lt-leb _ _ l)
  formed-right e (late_a u l) = named_late p _ _ (formed-tests w p e).a u l
  formed-right e (late_b u l) = named_late p _ _ (formed-tests w p e).b u l
  formed-right e (unused_a u l) = named_unused p _ _ (formed-tests w p e).a u l
  formed-right e (unused_b u l) = named_unused p _ _ (formed-tests w p e).b u l
  formed-right e (unused_variable u l) = zero_unused _ _ (formed-tests w p e).variable u l
  formed-right e (unused_n u l) = zero_unused _ _ (formed-tests w p e).n u l
  formed-right e (spare_bits l) = omega (arith, eqb-true (spare_of w) 0 (formed-tests w p e).spare)

  pub formed-wrong : formed w p ≡ false → WrongWord w p
  formed-wrong e =
      let s = step_of w in
      let u = uses_of s.kind in
      decide u.kind
      (λ t1. decide (named_before p u.a s.a)
      (λ t2. decide (named_before p u.b s.b)
      (λ t3. decide (zero_unless u.variable s.variable)
      (λ t4. decide (zero_unless u.n s.n)
      (λ t5. decide (eqb (spare_of w) 0)
      (λ t6. absurd (not-both _ (tests-formed (record { kind = t1; a = t2; b = t3; variable = t4; n = t5; spare = t6 })) e))
      (λ f. spare_bits (omega (arith, eqb-false (spare_of w) 0 f))))
      (λ f. zero-wrong u.n s.n f unused_n))
      (λ f. zero-wrong u.variable s.variable f unused_variable))
      (λ f. named-wrong p u.b s.b f late_b unused_b))
      (λ f. named-wrong p u.a s.a f late_a unused_a))
      (λ f. no_kind (leb-false _ _ (sym (kind-is _ (small-kind w)) ∙ f)))
