use native.Mathlib.Omega.{arith}
use mathlib.Core.Path.{sym}
use lib.Seq.{length-take-le}
use borrow.Author.Tests.{lt-ltb, le-ltb}
use Rattle.report_lines.specs.Puts.{puts_then}
use Rattle.sheet_limits.specs.Limits.{front-known}
use Rattle.report_refused.specs.Known.{known_fault}
use Rattle.report_refused.proofs.step.put_known_fault.Goals as goal

pub overflow_sub-p : goal.overflow_sub-p
overflow_sub-p c =
    c.requires.placed.from c.if-p-lt64.true

pub bounds-steps-p : goal.bounds-steps-p
bounds-steps-p c =
    omega (arith, c.requires.placed.from c.if-p-lt64.true, c.requires.placed.to c.if-p-lt64.true)

pub slice_bounds-put_step_cause-end : goal.slice_bounds-put_step_cause-end
slice_bounds-put_step_cause-end c =
    sym (length-take-le _ _ (omega (
      arith,
      c.requires.many,
      c.requires.placed.to c.if-p-lt64.true,
    )))

pub put_step_cause-requires : goal.put_step_cause-requires
put_step_cause-requires c =
    front-known c.args.known.now c.args.r.place c.requires.regular

pub returns-then-p-lt64 : goal.returns-then-p-lt64
unfolding known_fault
returns-then-p-lt64 c =
    rw (
      lt-ltb _ _ c.if-p-lt64.true,
      ← c.line_of.ensures,
    ) (puts_then c.put_where-next.ensures c.put_step_cause.ensures)

pub returns : goal.returns
unfolding known_fault
returns c = rw (le-ltb _ _ c.if-p-lt64.false) c.put_own_fault.ensures
