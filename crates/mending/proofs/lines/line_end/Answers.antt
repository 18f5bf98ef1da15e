use Rattle.model_mending.specs.Lines.{end_at}
use borrow.Author.Tests.{eq-eqb, ne_eqb}
use mathlib.Core.Path.{sym, ◌∙◌}
use Rattle.mending.proofs.lines.line_end.Goals as goal

pub returns-then-byte_at-eq13 : goal.returns-then-byte_at-eq13
unfolding end_at
returns-then-byte_at-eq13 c = rw (eq-eqb _ _ (sym c.byte_at.ensures ∙ c.if-byte_at-eq13.true))

pub returns-else-byte_at-eq13 : goal.returns-else-byte_at-eq13
unfolding end_at
returns-else-byte_at-eq13 c = rw (ne_eqb _ _ (λ e. c.if-byte_at-eq13.false (c.byte_at.ensures ∙ e)))
