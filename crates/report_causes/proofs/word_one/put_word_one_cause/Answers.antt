use Rattle.lists.specs.Bytes.{bytes}
use borrow.Author.Tests.{le-leb, lt-leb}
use Rattle.model_faults.specs.WordOne.{word_one_cause}
use Rattle.report_causes.proofs.word_one.put_word_one_cause.Goals as goal

pub returns-then-e-gt1 : goal.returns-then-e-gt1
unfolding word_one_cause bytes
returns-then-e-gt1 c = rw (lt-leb _ _ c.if-e-gt1.true) c.say.ensures

pub returns : goal.returns
unfolding word_one_cause
returns c = rw (le-leb _ _ c.if-e-gt1.false) c.put_sizes_cause.ensures
