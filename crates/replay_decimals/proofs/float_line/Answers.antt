use native.Mathlib.Omega.{arith}
use mathlib.Core.List.{[]}
use mathlib.Core.Path.{sym}
use lib.Seq.{length-take-le}
use Rattle.report_lines.specs.Puts.{printed-none, puts_then}
use Rattle.replay_decimals.proofs.float_line.Goals as goal

pub returns : goal.returns
returns c =
    let p = puts_then c.put_float_of-end.ensures c.put.ensures [] _ (printed-none _) in
    (omega (arith, p.behind), sym (length-take-le _ _ (omega (arith, p.behind))))
