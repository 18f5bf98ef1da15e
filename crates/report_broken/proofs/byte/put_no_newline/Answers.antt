use Rattle.lists.specs.Bytes.{bytes}
use Rattle.report_lines.specs.Puts.{puts_then}
use Rattle.model_faults.specs.Broken.{no_newline_text}
use Rattle.report_broken.proofs.byte.put_no_newline.Goals as goal

pub returns-then-is_digit-is_capital : goal.returns-then-is_digit-is_capital
unfolding no_newline_text bytes
returns-then-is_digit-is_capital c =
    rw (
      ← c.is_digit.ensures,
      ← c.is_capital.ensures,
      c.if-is_digit-is_capital.true,
    )
    c.put.ensures

pub returns : goal.returns
unfolding no_newline_text bytes
returns c =
    rw (
      ← c.is_digit.ensures,
      ← c.is_capital.ensures,
      c.if-is_digit-is_capital.false,
    )
    (puts_then c.put_byte_name-next.ensures c.put-2.ensures)
