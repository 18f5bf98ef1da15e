use Rattle.lists.specs.Bytes.{bytes}
use borrow.Author.Tests.{eq-eqb, ne_eqb, le-leb, lt-leb}
use Rattle.report_lines.specs.Puts.{puts_none}
use Rattle.model_faults.specs.WordOne.{sizes_cause}
use Rattle.report_causes.proofs.word_one.put_sizes_cause.Goals as goal

pub returns-then-k-gt16 : goal.returns-then-k-gt16
unfolding sizes_cause bytes
returns-then-k-gt16 c = rw (lt-leb _ _ c.if-k-gt16.true) c.say.ensures

pub returns-then-n-lt1 : goal.returns-then-n-lt1
unfolding sizes_cause bytes
returns-then-n-lt1 c =
    rw (
      le-leb _ _ c.if-k-gt16.false,
      lt-leb _ _
          c.if-n-lt1.true,
    ) c.put.ensures

pub returns-then-k-n-gt64 : goal.returns-then-k-n-gt64
unfolding sizes_cause bytes
returns-then-k-n-gt64 c =
    rw (
      le-leb _ _ c.if-k-gt16.false,
      le-leb _ _
          c.if-n-lt1.false,
      lt-leb _ _
          c.if-k-n-gt64.true,
    ) c.say_two.ensures

pub returns-then-x-ne0 : goal.returns-then-x-ne0
unfolding sizes_cause bytes
returns-then-x-ne0 c =
    rw (
      le-leb _ _ c.if-k-gt16.false,
      le-leb _ _
          c.if-n-lt1.false,
      le-leb _ _
          c.if-k-n-gt64.false,
      ne_eqb _ _ c.if-x-ne0.true,
    )
    c.put-then-x-ne0.ensures

pub returns : goal.returns
unfolding sizes_cause bytes
returns c =
    rw (
      le-leb _ _ c.if-k-gt16.false,
      le-leb _ _ c.if-n-lt1.false,
      le-leb _ _ c.if-k-n-gt64.false,
      eq-eqb _ _ c.if-x-ne0.false,
    ) (puts_none _ _)
