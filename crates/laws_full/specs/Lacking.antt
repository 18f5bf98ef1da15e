-- Of an accepted recipe: the full length of a variable that a place's header lacks is 1, whatever the place is made of.
use Rattle.std.specs.Prelude.{ℕ, zero, suc, ◌≤◌, ◌<◌, List, ◌≡◌, ltb, length}
use Rattle.std.proofs.Math.Path.{ap}
use Rattle.std.proofs.Common.{◌∙◌, arith, get_or-take, ltb-true, ltb-false}
use Rattle.std.proofs.Math.ListN.{take}
use Rattle.lists.specs.Test.{decide}
use Rattle.model.specs.Header.{limit, len, no_header}
use Rattle.model_recipes.specs.Recipe.{Recipe, head_at, announced_step}
use Rattle.model_recipes.specs.Check.{check_refusal}
use Rattle.model_texts.specs.Full.{counted}
use Rattle.shape_words.specs.Rules.{GoodVar, ruled-at}
use Rattle.recipes_kinds.specs.Known.{small-variable}
use Rattle.laws_full.specs.Places.{full-input, full-step}
use Rattle.laws_full.specs.Missing.{missing-one}
use Rattle.laws_full.specs.Accepted.{accepted-ordered, accepted-known}
use Rattle.laws_full.specs.Setting.{size, known, head, full, word, step}
use Rattle.laws_full.specs.Chained.{head_step}

module _ (it : Recipe) (z : (check_refusal it).number ≡ 0) where
  -- a variable of a place's header keeps the rules
  pub good : (p w : ℕ) → w < 4 → GoodVar (head it p).vars w (limit (head it p) w) (len (head it p) w)
  good p w l = ruled-at ((accepted-known it z).at p).rules w l

  -- what the places before p announce
  pub taken : (p x : ℕ) → x < p → head_at (take p (known it)) x ≡ head it x
  taken p x l = get_or-take p (known it) x no_header l

  unfoldable pub Lacks : ℕ → ℕ → Type 0
  Lacks p w = (head it p).vars ≤ w → full it p w ≡ 1

  pub input_lacks : (p : ℕ) → p < length it.headers → p < size it → (w : ℕ) → w < 4 → Lacks p w
  unfolding Lacks
  input_lacks p t l w m v =
      let g = good p w m in
      full-input (known it) it.steps (length it.headers) (size it) p w t l m ∙ omega (arith, g.pos, g.fit, g.gone v)
