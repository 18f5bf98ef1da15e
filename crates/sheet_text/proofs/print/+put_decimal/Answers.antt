use native.Mathlib.Omega.{arith}
use mathlib.Core.Path.{ap}
use lib.ListN.{length}
use Rattle.sheet_text.specs.Put.{put-len, put_then}
use Rattle.sheet_text.specs.Decimal.{decimal_digit, decimal-more, length-decimal-more}
use Rattle.sheet_text.proofs.print.+put_decimal.Goals as goal

pub put_byte-requires : goal.put_byte-requires
put_byte-requires t c = omega (arith, ap length (decimal_digit c.args.n c.if-n-lt10.true))

pub returns-then-n-lt10 : goal.returns-then-n-lt10
returns-then-n-lt10 t c = rw (decimal_digit c.args.n c.if-n-lt10.true, ← c.last_digit.ensures) c.put_byte.ensures

pub put_decimal-next-requires : goal.put_decimal-next-requires
put_decimal-next-requires t c =
    let h = length-decimal-more c.args.n c.if-n-lt10.false (omega arith) in
    (omega arith, omega (arith, h))

pub put_byte-requires-2 : goal.put_byte-requires-2
put_byte-requires-2 t c =
    omega (
      arith,
      length-decimal-more c.args.n c.if-n-lt10.false (omega arith),
      put-len c.put_decimal-next.ensures,
      c.put_decimal-next.ensures.behind,
    )

pub returns : goal.returns
returns t c =
    rw (decimal-more c.args.n c.if-n-lt10.false (omega arith), ← c.last_digit-2.ensures)
    (put_then c.put_decimal-next.ensures c.put_byte-2.ensures)
