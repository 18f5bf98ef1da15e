use native.Mathlib.Omega.{arith}
use Rattle.lists.specs.Bytes.{bytes}
use Rattle.report_lines.specs.Puts.{puts_then}
use Rattle.report_broken.specs.Headers.{lines-most}
use Rattle.report_broken.specs.Wrong.{rest-most, rest-is, rest-past}
use Rattle.report_broken.proofs.broken.put_rest_fault.Goals as goal

pub wrong_line-k-requires : goal.wrong_line-k-requires
wrong_line-k-requires c =
    omega (arith, c.input_count-heads.ensures, c.rest_count-rest.ensures, lines-most c.requires)

pub put_line_fault-requires : goal.put_line_fault-requires
put_line_fault-requires c =
    omega (
      arith,
      c.input_count-heads.ensures,
      c.rest_count-rest.ensures,
      lines-most
          c.requires,
    )

pub returns-then-k-all : goal.returns-then-k-all
returns-then-k-all c =
    rw (← rest-is c.args.text.now
    c.input_count-heads.ensures
    c.rest_count-rest.ensures
    c.wrong_line-k.ensures c.if-k-all.true)
    c.put_line_fault.ensures

pub returns : goal.returns
unfolding bytes
returns c =
    rw (← rest-past c.args.text.now c.input_count-heads.ensures c.rest_count-rest.ensures
    c.wrong_line-k.ensures c.if-k-all.false) (puts_then c.tell-next.ensures c.say.ensures)

pub overflow_add-all : goal.overflow_add-all
overflow_add-all c =
    omega (arith, c.input_count-heads.ensures, c.rest_count-rest.ensures, lines-most c.requires)

pub overflow_add-k : goal.overflow_add-k
overflow_add-k c =
    omega (
      arith,
      c.input_count-heads.ensures,
      c.rest_count-rest.ensures,
      lines-most c.requires,
      rest-most c.args.text.now c.input_count-heads.ensures c.rest_count-rest.ensures c.wrong_line-k.ensures,
    )
