use borrow.Author.Tests.{lt-ltb, le-ltb}
use Rattle.model_texts.specs.Hex.{digit_for}
use Rattle.sheet_text.proofs.print.digit_for.Goals as goal

pub returns-then-d-lt10 : goal.returns-then-d-lt10
unfolding digit_for
returns-then-d-lt10 c = rw (lt-ltb _ _ c.if-d-lt10.true)

pub returns-else-d-lt10 : goal.returns-else-d-lt10
unfolding digit_for
returns-else-d-lt10 c = rw (le-ltb _ _ c.if-d-lt10.false)
