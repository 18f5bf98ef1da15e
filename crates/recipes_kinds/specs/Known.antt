-- What the places of a recipe announce keeps the rules of headers, counts aside: whatever the steps' fields hold. It is
-- kept as words, and read back from them.
use Rattle.std.specs.Prelude.{List, map, ◌≡◌, ℕ, ◌≤◌, ◌<◌, length, get_or}
use Rattle.std.proofs.Common.{arith}
use Rattle.std.proofs.lemmas.List.{length-map}
use Rattle.std.proofs.Math.ListN.{get_or-map, get_or-eq_default}
use Rattle.lists.specs.All.{All}
use Rattle.model.specs.declared.Header.{Header}
use Rattle.model_recipes.specs.declared.Step.{Step}
use Rattle.model.specs.declared.Family.{Family}
use Rattle.model.specs.Header.{no_header}
use Rattle.model.specs.Word.{header_of}
use Rattle.model.specs.Announced.{announced}
use Rattle.model_recipes.specs.Steps.{step_of}
use Rattle.model_recipes.specs.Recipe.{family_of, head_at, announced_step}
use Rattle.shape_words.specs.Rules.{Regular}
use Rattle.shape.specs.Announced.{announced-regular}

abbrev pub Known : List Header → Type 0
Known known = All Regular no_header known

pub step-regular : (ed w : ℕ) {known : List Header} → Known known → Regular (announced_step ed w known)
unfolding announced_step
step-regular ed w k = announced-regular (family_of ed (step_of w)) (k.at (step_of w).a) (k.at (step_of w).b)

-- the header of a place, by its word
pub head_at_lem : (ws : List ℕ) (p : ℕ) → head_at (map header_of ws) p ≡ header_of (get_or ws p 0)
unfolding header_of
head_at_lem ws p = get_or-map header_of ws p 0

pub head-past : (ws : List ℕ) (p : ℕ) → length ws ≤ p → head_at (map header_of ws) p ≡ no_header
head-past ws p h = get_or-eq_default (map header_of ws) no_header (omega (arith, length-map ws header_of))

pub announced-is : (ed w : ℕ) (known : List Header) {s : Step} {f : Family} {a b r : Header} → s ≡ step_of w → f ≡ family_of ed s → a ≡ head_at known s.a
    → b ≡ head_at known s.b → r ≡ announced f a b → r ≡ announced_step ed w known
unfolding announced_step
announced-is ed w known p q x y z = simp (z, q, x, y, p)

-- how large the fields are
pub small-kind : (w : ℕ) → (step_of w).kind < 16
unfolding step_of
small-kind w = omega arith

pub small-variable : (w : ℕ) → (step_of w).variable < 4
unfolding step_of
small-variable w = omega arith
