use Rattle.npy_header.specs.Cursors.{last-is}
use Rattle.npy_header.proofs.is_last.Goals as goal

pub returns : goal.returns
returns c = last-is c.args.text.now c.args.at c.byte_at.ensures
