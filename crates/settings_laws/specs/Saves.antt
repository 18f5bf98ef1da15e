-- A save on sound lists; of two saves from one version exactly one is accepted.
use Rattle.std.specs.Prelude.{ℕ, ◌+◌, ◌<◌, true, [], ◌∷◌, ◌++◌, ◌≡◌, length, set}
use Rattle.std.proofs.Math.Path.{refl}
use Rattle.std.proofs.Common.{ap, ◌∙◌, arith}
use borrow.Author.Tests.{lt-ltb, eq-eqb, ne_eqb}
use Rattle.model_settings.specs.declared.Content.{Content}
use Rattle.model_settings.specs.declared.Unsettled.TheVariants.{Stale}
use Rattle.model_settings.specs.Store.{State, versions, current, in_range, last_version, ask, told, refuse, saving}
use Rattle.model_settings.specs.Store.{answer, after, onward}
use Rattle.model_settings.specs.Store.Call.{save}
use Rattle.settings_laws.specs.Sound.{Sound, set_here, length_more}

module _ (s : State) (d : ℕ) (c : Content) (low : d < 32) (r : in_range c ≡ true) where
  -- a save from the current version
  pub save_answer_lem : current s d < last_version → answer (save d (current s d) c) s ≡ told (current s d + 1) c
  unfolding answer saving ask
  save_answer_lem l = rw (lt-ltb d 32 low, r, eq-eqb (current s d) (current s d) refl, lt-ltb (current s d) last_version l)

  pub save-after : current s d < last_version → after (save d (current s d) c) s ≡ set s d (versions s d ++ (c ∷ []))
  unfolding after onward
  save-after l = rw (save_answer_lem l)

  -- a save from another version
  pub save_stale : (from : ℕ) → (from ≡ current s d → ⊥) → answer (save d from c) s ≡ refuse Stale
  unfolding answer saving ask
  save_stale from n = rw (lt-ltb d 32 low, r, ne_eqb from (current s d) n)

-- two planners, who both started from the current version: the first is answered the next version, the second 13
pub second-stale :
    (s : State) (d : ℕ) (c e : Content) → Sound s → d < 32 → in_range c ≡ true → in_range e ≡ true
    → current s d < last_version → answer (save d (current s d) e) (after (save d (current s d) c) s) ≡ refuse Stale
second-stale s d c e g low r q l =
    let t : State = set s d (versions s d ++ (c ∷ [])) in
    let n : length (versions t d) ≡ length (versions s d) + 1 = ap length
    (set_here s (versions s d ++ (c ∷ [])) d (omega (arith, g.many))) ∙ length_more (versions s d) c in
    rw (save-after s d c low r l) (save_stale t d e low q (current s d) (λ p. omega (arith, (g.each d low).made)))
