use native.Mathlib.Omega.{arith}
use Rattle.decimals.specs.Word.{number-whole, number-less, number-part}
use Rattle.decimals.proofs.value.number_of.Goals as goal

pub returns-then-exponent-gt1075 : goal.returns-then-exponent-gt1075
returns-then-exponent-gt1075 c =
    number-whole c.args.exponent c.args.low c.binary_of-b.result c.binary_of-b.ensures
    (omega arith) (omega arith) (omega arith)

pub billionths_of-requires : goal.billionths_of-requires
billionths_of-requires c =
    number-less c.args.exponent c.args.low c.binary_of-b.result c.binary_of-b.ensures (omega arith)

pub returns : goal.returns
returns c =
    number-part c.args.exponent c.args.low c.binary_of-b.result c.binary_of-b.ensures c.behind_of.result
    c.behind_of.ensures c.billionths_of.ensures
