use Rattle.npy_columns.specs.Places.{same-rolled}
use Rattle.npy_columns.proofs.roll.Goals as goal

pub returns : goal.returns
returns c = same-rolled c.args.n c.requires c.if-n-ne1.false
