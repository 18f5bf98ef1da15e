use mathlib.Core.Path.{refl}
use lib.Ieee.{div, of_bits}
use Rattle.report_totals.proofs.amount.unknown.Goals as goal

pub returns : goal.returns
unfolding div of_bits
returns c = refl
