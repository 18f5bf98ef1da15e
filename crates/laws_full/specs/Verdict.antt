-- The verdict on a place of an accepted recipe: WHOLE exactly where no step that it is made of leaves terms out; else
-- the named place is such a step, and no step before it that the place is made of is.
use Rattle.std.specs.Prelude.{ℕ, ◌≤◌, ◌<◌, false, List, ◌↔◌, ◌≡◌, length}
use Rattle.std.proofs.Common.{leb-false}
use Rattle.model_recipes.specs.Recipe.{Recipe}
use Rattle.model_recipes.specs.Check.{check_refusal}
use Rattle.model_texts.specs.Whole.{is_whole}
use Rattle.laws_full.specs.FirstOut.{out-most, out-drops, whole-none, none-whole}
use Rattle.laws_full.specs.Accepted.{accepted-ordered, accepted-few}
use Rattle.laws_full.specs.Setting.{size, known, lengths, MadeOf, LeavesOut, Clear, Whole, first_out}

module _ (it : Recipe) (z : (check_refusal it).number ≡ 0) (p : ℕ) (l : p < size it) where
  pub whole_exactly : Whole it p ↔ Clear it p
  whole_exactly = (
    whole-none (known it) it.steps (length it.headers) (lengths it) (accepted-ordered it z) (accepted-few it z) p l,
    none-whole (known it) it.steps (length it.headers) (lengths it) (accepted-ordered it z) (accepted-few it z) p l,
  )

  pub cut-named : is_whole (known it) it.steps (length it.headers) (lengths it) p ≡ false
      → MadeOf it p (first_out it p) × LeavesOut it (first_out it p)
  unfolding is_whole
  cut-named e =
      out-drops (known it) it.steps (length it.headers) (lengths it) (accepted-ordered it z) (accepted-few it z) p l
      (leb-false 64 (first_out it p) e)

  pub cut-first : (q : ℕ) → MadeOf it p q → LeavesOut it q → first_out it p ≤ q
  cut-first q = out-most (known it) it.steps (length it.headers) (lengths it) (accepted-ordered it z) l
