use native.Mathlib.Omega.{arith}
use Rattle.report_lines.specs.Puts.{puts_then}
use borrow.Author.Tests.{le-leb, lt-leb}
use Rattle.sheet_reading.specs.Reading.{count_small}
use Rattle.model_faults.specs.Broken.{line_cause}
use Rattle.report_broken.specs.Wrong.{digits-most}
use Rattle.report_broken.proofs.line.put_line_cause.Goals as goal

pub overflow_add-place : goal.overflow_add-place
overflow_add-place c = omega (arith, c.digits_on-c.ensures, digits-most c.args.text.now c.args.k)

pub overflow_add-input_count : goal.overflow_add-input_count
overflow_add-input_count c =
    omega (
      arith,
      c.input_count.ensures,
      count_small
          c.args.text.now,
    )

pub returns-then-text-place : goal.returns-then-text-place
unfolding line_cause
returns-then-text-place c =
    rw (
      ← c.digits_on-c.ensures,
      ← c.input_count.ensures,
      le-leb _ _
          c.if-text-place.true,
    ) (puts_then
    c.put_ended-next.ensures c.put_asked.ensures)

pub put_byte_fault-requires : goal.put_byte_fault-requires
put_byte_fault-requires c =
    omega (arith, c.digits_on-c.ensures, digits-most c.args.text.now c.args.k)

pub returns : goal.returns
unfolding line_cause
returns c =
    rw (
      ← c.digits_on-c.ensures,
      lt-leb _ _
          c.if-text-place.false,
    ) c.put_byte_fault.ensures
