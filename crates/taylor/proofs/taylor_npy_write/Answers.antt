use mathlib.Core.Path.{ap, ◌∙◌}
use Rattle.npy_files.specs.Results.{Written}
use Rattle.taylor.specs.Face.{word_of_written, length_after}
use Rattle.taylor.proofs.taylor_npy_write.Goals as goal

pub returns : goal.returns
returns c = (
  c.put_written.ensures.answer ∙ ap word_of_written c.write.ensures.0,
  (c.write.ensures.1, c.put_written.ensures.length ∙ ap (λ (x : Written). length_after x c.args.written.now) c.write.ensures.0),
)
