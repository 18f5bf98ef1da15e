use mathlib.Core.Path.{◌∙◌}
use Rattle.npy_bytes.specs.Words.{starts-pointwise}
use Rattle.npy_bytes.proofs.starts_with.Goals as goal

pub returns : goal.returns
returns c = c.starts_with.ensures.value ∙ starts-pointwise c.args.word.now c.args.file.now
