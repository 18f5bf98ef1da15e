-- What a function answers that may refuse, by the refusal that the definitions give: number 0 where it does not.
use Rattle.std.specs.Prelude.{Result, MatchResult, ⊤, ◌≡◌}
use Rattle.model.specs.declared.Refusal.{Refusal}
use Rattle.model.specs.Refusals.{no_refusal}

-- A gate lets a call pass, and hands on something of which P holds; or it refuses, by g.

-- q is the refusal
pub record Refuses (g q : Refusal) : Type 0 where
  pub is : q ≡ g
  pub some : q.number ≡ 0 → ⊥

-- there is none
pub record Lets {T : Type 0} (g : Refusal) (P : T → Type 0) (x : T) : Type 0 where
  pub none : g.number ≡ 0
  pub holds : P x

abbrev pub Passes : {T : Type 0} → Refusal → (T → Type 0) → Result T Refusal → Type 0
Passes g P r = MatchResult r (Lets g P) (Refuses g)

-- what is handed on: nothing, or this
abbrev pub Nothing : ⊤ → Type 0
Nothing u = ⊤

abbrev pub Is : {T : Type 0} → T → T → Type 0
Is x y = y ≡ x

-- J holds of the refusal, which is none where nothing is refused.
pub record Told (J : Refusal → Type 0) (q : Refusal) : Type 0 where
  pub some : q.number ≡ 0 → ⊥
  pub holds : J q

abbrev pub Says : {T : Type 0} → (Refusal → Type 0) → Result T Refusal → Type 0
Says J r = MatchResult r (λ _. J no_refusal) (Told J)
