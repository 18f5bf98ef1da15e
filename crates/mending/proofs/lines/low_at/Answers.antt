use mathlib.Core.Path.{sym, ap, ◌∙◌}
use Rattle.model_mending.specs.Lines.{lowered}
use Rattle.mending.specs.Lines.{low_byte}
use Rattle.mending.proofs.lines.low_at.Goals as goal

pub returns : goal.returns
returns c = c.lower.ensures ∙ (ap lowered c.byte_at.ensures ∙ sym (low_byte _ _))
