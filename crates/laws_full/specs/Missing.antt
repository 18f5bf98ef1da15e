-- The full length of a variable that a place's header lacks is 1, whatever its kind.
use Prim.Native.Nat.{ℕ, ◌-◌, ◌≤◌, max}
use Rattle.std.specs.Prelude.{Bool, true, false, ◌&&◌, cond, ◌≡◌, eqb, ltb, get_or}
use Rattle.std.proofs.Math.Path.{refl}
use Rattle.std.proofs.Common.{arith, ltb-false}
use Rattle.std.proofs.lemmas.Bool.{eqb-false}
use Rattle.lists.specs.Test.{decide, of-both}
use Rattle.model.specs.declared.Header.{Header}
use Rattle.model.specs.declared.Family.{Family}
use Rattle.model.specs.declared.Family.TheVariants.{Constant}
use Rattle.model.specs.Announced.{single, paired, announced}
use Rattle.model_recipes.specs.declared.Step.{Step}
use Rattle.model_recipes.specs.Kinds.{idle}
use Rattle.model_recipes.specs.Steps.{rows, uses_of}
use Rattle.model_recipes.specs.Recipe.{families}
use Rattle.model_texts.specs.Full.{sum_full, product_full, quotient_full, series_full, power_full, shift_full, substitution_full}
use Rattle.model_texts.specs.Full.{full_after}
use Rattle.recipes_laws.specs.EachKind.{by_kind}

shift_one : (n w v y : ℕ) → y ≡ 1 → cond (eqb w v) (shift_full n y) y ≡ 1
unfolding shift_full
shift_one n w v y h = decide (eqb w v) (λ t. rw (t, h) (omega arith)) (λ t. rw (t, h))

power-one : (e y : ℕ) → (eqb e 0 ≡ false → y ≡ 1) → power_full e y ≡ 1
unfolding power_full
power-one e y h = decide (eqb e 0) (λ t. rw t) (λ t. rw (t, h t) (omega arith))

-- either nothing is put, or what is put has one row
put_one : (x y z : ℕ) → y ≡ 1 → ((x ≡ 1 → ⊥) → z ≡ 1) → substitution_full x y z ≡ 1
unfolding substitution_full
put_one x y z h k = decide (eqb x 1) (λ t. rw (t, h)) (λ t. rw (t, k (eqb-false x 1 t), h))

and_no : (b : Bool) → (b && false) ≡ false
and_no true = refl
and_no false = refl

module _ (ed : ℕ) (s : Step) (a b : Header) (w x y z : ℕ) where
  -- what a place announces by in its edition, and what its full lengths go by
  abbrev announces : ℕ → Family
  announces k = get_or (families ed s) k Constant

  abbrev family : ℕ → Family
  family k = get_or (families 0 s) k Constant

  substitution-one : (a.vars ≤ s.variable → x ≡ 1) → (a.vars ≤ w → y ≡ 1) → (b.vars ≤ w → z ≡ 1)
      → (announced (announces 10) a b).vars ≤ w → full_after (family 10) w x y z ≡ 1
  unfolding announced paired families full_after
  substitution-one c d e h =
      decide (ltb s.variable a.vars)
      (λ t.
      let m : max a.vars b.vars ≤ w = rw t at h in
      put_one x _ z (of-both (λ (u : ℕ). u ≡ 1) (eqb w s.variable) refl (d (omega arith))) (λ o. e (omega arith)))
      (λ t.
      let m : a.vars ≤ w = rw t at h in
      put_one x _ z (of-both (λ (u : ℕ). u ≡ 1) (eqb w s.variable) refl (d m))
      (λ o. absurd (o (c (ltb-false _ _ t)))))

  -- no power but that of zero is another in edition 1
  never : eqb s.n 0 ≡ false → idle ed s.n ≡ false
  never t = rw t (and_no (eqb ed 1))

  pub missing-one : (k : ℕ) → ((uses_of k).a ≡ true → a.vars ≤ s.variable → x ≡ 1)
      → ((uses_of k).a ≡ true → a.vars ≤ w → y ≡ 1)
      → ((uses_of k).b ≡ true → b.vars ≤ w → z ≡ 1) → (announced (announces k) a b).vars ≤ w
      → full_after (family k) w x y z ≡ 1
  unfolding announced single paired families rows full_after sum_full product_full quotient_full series_full
  missing-one =
      by_kind (record {
        k0 = λ c d e h. refl;
        k1 = λ c d e h. d refl h;
        k2 = λ c d e h. rw (d refl (omega arith), e refl (omega arith));
        k3 = λ c d e h. rw (d refl (omega arith), e refl (omega arith));
        k4 = λ c d e h. rw (d refl (omega arith), e refl (omega arith));
        k5 = λ c d e h. rw (d refl (omega arith), e refl (omega arith));
        k6 = λ c d e h. power-one s.n y (λ t. d refl (rw (never t, t) at h));
        k7 = λ c d e h. shift_one s.n w s.variable y (d refl h);
        k8 = λ c d e h. shift_one s.n w s.variable y (d refl h);
        k9 = λ c d e h. shift_one s.n w s.variable y (d refl h);
        k10 = λ c d e h. substitution-one (c refl) (d refl) (e refl) h;
        k11 = λ c d e h. rw (d refl h);
        past = λ k c d e h. refl;
      })
