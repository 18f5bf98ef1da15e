use Rattle.lists.specs.Bytes.{bytes}
use borrow.Author.Tests.{eq-eqb, ne_eqb}
use Rattle.model_faults.specs.Broken.{short_text}
use Rattle.report_broken.proofs.byte.put_short.Goals as goal

pub returns-then-c-eq0 : goal.returns-then-c-eq0
unfolding short_text bytes
returns-then-c-eq0 c = rw (eq-eqb _ _ c.if-c-eq0.true) c.put.ensures

pub returns : goal.returns
unfolding short_text bytes
returns c = rw (ne_eqb _ _ c.if-c-eq0.false) c.say.ensures
