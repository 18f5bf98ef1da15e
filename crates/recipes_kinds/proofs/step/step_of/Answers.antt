use Prim.Native.Nat.{◌/◌, ◌^◌}
use lib.Bits.{and_mask}
use Rattle.model_recipes.specs.Steps.{step_of}
use Rattle.recipes_kinds.proofs.step.step_of.Goals as goal

pub returns : goal.returns
unfolding step_of
returns c = let w = c.args.word in
    simp (
      and_mask (w / 2 ^ 60) 4,
      and_mask (w / 2 ^ 54) 6,
      and_mask (w / 2 ^ 48) 6,
      and_mask (w / 2 ^ 46) 2,
      and_mask (w / 2 ^ 14) 32,
    )
