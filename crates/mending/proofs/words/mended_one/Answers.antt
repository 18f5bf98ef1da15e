use Rattle.mending.specs.Words.{one-is}
use Rattle.mending.proofs.words.mended_one.Goals as goal

pub returns : goal.returns
returns c = one-is _
