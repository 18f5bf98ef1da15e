-- Words that hold the lists before an accepted call hold them after it.
use Rattle.std.specs.Prelude.{ℕ, ◌%◌, ◌≤◌, ◌<◌, true, List, [], ◌∷◌, ◌++◌, ◌≡◌, length, set, ltb, eqb}
use Rattle.std.proofs.Common.{sym, ap, subst, ◌∙◌, arith, ltb-true, ltb-false, eqb-true}
use Rattle.std.proofs.lemmas.Bool.{eqb-false}
use Rattle.lists.specs.Test.{decide}
use Rattle.model_settings.specs.declared.Content.{Content}
use Rattle.model_settings.specs.Store.{State, versions, in_range}
use Rattle.model_settings.specs.Words.{slot_at, put}
use Rattle.settings_store.specs.Tests.{ranged}
use Rattle.settings_laws.specs.Sound.{Sound, HoldsList, Holds, length_more, more-last, more-old, set_here}
use Rattle.settings_laws.specs.Sound.{set_there}
use Rattle.settings_laws.specs.Put.{put-long, put_version_lem, put-slot, put_slots, put_versions_lem}

module _ (w : List ℕ) (d : ℕ) (xs : List Content) (c : Content) (long : 544 ≤ length w) (low : d < 32)
    (made : 1 ≤ length xs) (small : c.horizon ≤ 255) where
  -- the department whose version it is
  pub put-here : HoldsList w d xs → HoldsList (put w d (length xs) c) d (xs ++ (c ∷ []))
  put-here h =
      let n : ℕ = length xs in
      let e = length_more xs c in
      record {
        version = put_version_lem w d n c long low ∙ omega arith;
        slot = λ u a b.
            decide (ltb u n)
            (λ t. let l = ltb-true u n t in
            put_slots w d n c long low d (u % 8) (omega arith) (λ _ q. omega arith) ∙
            (h.slot u l (omega arith) ∙ sym (more-old xs c u l)))
            (λ t. let q : n ≡ u = omega (arith, ltb-false u n t) in
            ap (λ (z : ℕ). slot_at (put w d n c) d (z % 8)) (sym q) ∙
            (put-slot w d n c long low small ∙ sym (more-last xs c u q)));
        unmade = λ k a b. put_slots w d n c long low d k b (λ _ q. omega arith) ∙ h.unmade k (omega arith) b;
      }

  -- another one
  pub put-there :
      (e : ℕ) (ys : List Content) → (e ≡ d → ⊥) → HoldsList w e ys → HoldsList (put w d (length xs) c) e ys
  put-there e ys n h =
      record {
        version = put_versions_lem w d (length xs) c long low e n ∙ h.version;
        slot = λ u a b. put_slots w d (length xs) c long low e (u % 8) (omega arith) (λ p _. n p) ∙ h.slot u a b;
        unmade = λ k a b. put_slots w d (length xs) c long low e k b (λ p _. n p) ∙ h.unmade k a b;
      }

pub holds-put :
    {s : State} {w : List ℕ} (d : ℕ) (c : Content) → Sound s → Holds s w → d < 32 → in_range c ≡ true → Holds
    (set s d (versions s d ++ (c ∷ []))) (put w d (length (versions s d)) c)
holds-put {s} {w} d c g h low r =
    let xs : List Content = versions s d in
    let made = (g.each d low).made in
    let small = (ranged c r).high in
    record {
      long = rw (put-long w d (length xs) c h.long low) h.long;
      each = λ e l.
          decide (eqb e d)
          (λ t. subst (λ z. HoldsList (put w d (length xs) c) z (versions (set s d (xs ++ (c ∷ []))) z))
          (sym (eqb-true e d t))
          (rw (set_here s (xs ++ (c ∷ [])) d (omega (arith, g.many)))
          (put-here w d xs c h.long low made small (h.each d low))))
          (λ t. rw (set_there s (xs ++ (c ∷ [])) d e (eqb-false e d t))
          (put-there w d xs c h.long low made small e (versions s e) (eqb-false e d t) (h.each e l)));
    }
