use native.Mathlib.Omega.{arith}
use Rattle.sheet_reading.specs.Reading.{count_small, step_small}
use Rattle.report_broken.specs.Wrong.{broken-is, broken-past, broken_open}
use Rattle.report_broken.proofs.broken.put_broken.Goals as goal

pub overflow_add-heads : goal.overflow_add-heads
overflow_add-heads c = omega (arith, c.input_count-inputs.ensures, count_small c.args.text.now)

pub wrong_line-k-requires : goal.wrong_line-k-requires
wrong_line-k-requires c = omega (arith, c.input_count-inputs.ensures, count_small c.args.text.now)

pub overflow_add-least : goal.overflow_add-least
overflow_add-least c = omega (arith, c.input_count-inputs.ensures, count_small c.args.text.now)

pub overflow_add-least-then-k-heads : goal.overflow_add-least-then-k-heads
overflow_add-least-then-k-heads c =
    omega (
      arith,
      c.input_count-inputs.ensures,
      count_small c.args.text.now,
      c.step_count.ensures,
      step_small
          c.args.text.now,
    )

pub put_line_fault-requires : goal.put_line_fault-requires
put_line_fault-requires c =
    omega (
      arith,
      c.input_count-inputs.ensures,
      count_small
          c.args.text.now,
    )

pub returns-then-k-heads : goal.returns-then-k-heads
returns-then-k-heads c =
    rw (← broken-is c.args.text.now
    c.input_count-inputs.ensures
    c.wrong_line-k.ensures c.step_count.ensures
    c.if-k-heads.true) c.put_line_fault.ensures

pub put_rest_fault-requires : goal.put_rest_fault-requires
put_rest_fault-requires c =
    broken_open c.args.text.now c.input_count-inputs.ensures c.wrong_line-k.ensures c.requires
    c.if-k-heads.false

pub returns : goal.returns
returns c =
    rw (← broken-past c.args.text.now
    c.input_count-inputs.ensures
    c.wrong_line-k.ensures c.if-k-heads.false)
    c.put_rest_fault.ensures
