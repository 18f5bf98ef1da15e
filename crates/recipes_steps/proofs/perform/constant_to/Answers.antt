use mathlib.Core.Path.{◌∙◌}
use Prim.Native.Nat.{◌-◌}
use lib.ListN.{length-set}
use Rattle.model.specs.Constructed.{whole_f}
use Rattle.recipes_steps.specs.Ready.{constant-kept}
use Rattle.recipes_steps.proofs.perform.constant_to.Goals as goal

pub shape_of-pool : goal.shape_of-pool
shape_of-pool c =
    c.pad.auto.pool ∙ length-set c.args.pool.now c.args.at (whole_f c.args.n)

pub returns : goal.returns
returns c =
    constant-kept c.args.at c.args.room c.args.pool.now (whole_f c.args.n)
    c.requires.0 c.requires.1 c.pad.ensures
