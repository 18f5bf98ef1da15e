use mathlib.Core.Path.{◌≡◌}
use lib.ListN.{length, take}
use Rattle.model_recipes.specs.Recipe.{recipe_of, announced_steps, total}
use Rattle.recipes.specs.Running.{Running}
use Rattle.recipes.specs.Stopping.{Ahead}
use Rattle.recipes.proofs.running.run_steps.Given as goal

abbrev pub invariant-loop-i : goal.invariant-loop-i
invariant-loop-i l = Running (recipe_of l.edition l.headers l.steps) l.coefficients l.initial.known l.initial.pool l.i (total (take l.i (announced_steps
    (recipe_of l.edition l.headers l.steps)))) l.known l.starts l.pool × ((length l.scratch ≡ length l.initial.scratch) × Ahead
    (recipe_of l.edition l.headers l.steps) l.coefficients l.i)
