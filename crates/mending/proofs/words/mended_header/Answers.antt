use Rattle.mending.specs.Words.{header_is}
use Rattle.mending.proofs.words.mended_header.Goals as goal

pub returns : goal.returns
returns c = header_is _
