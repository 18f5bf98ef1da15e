use mathlib.Core.Path.{◌∙◌}
use Rattle.mending.specs.Changes.{byte-digit, byte_end}
use Rattle.mending.proofs.print.line_byte.Goals as goal

pub returns-then-k-lt16 : goal.returns-then-k-lt16
returns-then-k-lt16 c = c.hex_digit.ensures ∙ byte-digit _ _ c.if-k-lt16.true

pub returns-else-k-lt16 : goal.returns-else-k-lt16
returns-else-k-lt16 c = byte_end _ _ c.if-k-lt16.false
