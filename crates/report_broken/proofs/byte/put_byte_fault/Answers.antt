use Rattle.lists.specs.Bytes.{bytes}
use borrow.Author.Tests.{eq-eqb, ne_eqb, lt-ltb, le-ltb}
use Rattle.model_faults.specs.Broken.{byte_fault}
use Rattle.report_broken.proofs.byte.put_byte_fault.Goals as goal

pub returns-then-b-eq10 : goal.returns-then-b-eq10
unfolding byte_fault bytes
returns-then-b-eq10 c = rw (eq-eqb _ _ c.if-b-eq10.true) c.put_short.ensures

pub returns-then-b-eq13 : goal.returns-then-b-eq13
unfolding byte_fault bytes
returns-then-b-eq13 c =
    rw (
      ne_eqb _ _ c.if-b-eq10.false,
      eq-eqb _ _
          c.if-b-eq13.true,
    ) c.say.ensures

pub returns-then-b : goal.returns-then-b
unfolding byte_fault bytes
returns-then-b c =
    rw (
      ne_eqb _ _ c.if-b-eq10.false,
      ne_eqb _ _
          c.if-b-eq13.false,
      c.if-b.true,
    )
    c.say-then-b.ensures

pub returns-then-c-lt16 : goal.returns-then-c-lt16
unfolding byte_fault bytes
returns-then-c-lt16 c =
    rw (
      ne_eqb _ _ c.if-b-eq10.false,
      ne_eqb _ _
          c.if-b-eq13.false,
      c.if-b.false,
      lt-ltb _ _
          c.if-c-lt16.true,
    ) c.put_no_digit.ensures

pub returns : goal.returns
unfolding byte_fault bytes
returns c =
    rw (
      ne_eqb _ _ c.if-b-eq10.false,
      ne_eqb _ _
          c.if-b-eq13.false,
      c.if-b.false,
      le-ltb _ _
          c.if-c-lt16.false,
    ) c.put_no_newline.ensures
