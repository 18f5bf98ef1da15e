use Rattle.recipes_kinds.specs.Packed.{joined}
use Rattle.recipes_kinds.proofs.step.pack.Goals as goal

pub returns : goal.returns
returns c = joined c.args.s c.requires
