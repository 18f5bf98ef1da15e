use Rattle.lists.specs.Bytes.{bytes}
use Rattle.report_lines.specs.Puts.{puts_then}
use Rattle.model_faults.specs.Broken.{no_digit_text}
use Rattle.report_broken.proofs.byte.put_no_digit.Goals as goal

pub returns-then-is_capital : goal.returns-then-is_capital
unfolding no_digit_text bytes
returns-then-is_capital c =
    rw (
      ← c.is_capital.ensures,
      c.if-is_capital.true,
    )
    c.say.ensures

pub returns : goal.returns
unfolding no_digit_text bytes
returns c =
    rw (
      ← c.is_capital.ensures,
      c.if-is_capital.false,
    )
    (puts_then c.put_byte_name-next.ensures
    c.say-2.ensures)
