use borrow.Author.Tests.{lt-ltb, le-ltb}
use Rattle.shape_words.proofs.fault.after_var.Goals as goal

pub returns-then-k-vars : goal.returns-then-k-vars
returns-then-k-vars c = simp (c.unless.ensures, c.of.ensures, lt-ltb _ _ c.if-k-vars.true)

pub returns : goal.returns
returns c = simp (c.unless-2.ensures, c.of-2.ensures, le-ltb _ _ c.if-k-vars.false)
