use Rattle.sheet_limits.specs.Limits.{front-known, back-known, within-is}
use native.Mathlib.Omega.{arith}
use mathlib.Core.Path.{sym}
use lib.ListN.{length-take, length-drop}
use lib.Seq.{length-take-le}
use Rattle.sheet_limits.proofs.is_within.Goals as goal

pub slice_bounds-total_of-end : goal.slice_bounds-total_of-end
slice_bounds-total_of-end c = sym (length-take-le _ _ c.requires.fact_2.0)

pub total_of-coefficients-requires : goal.total_of-coefficients-requires
total_of-coefficients-requires c =
    record { fact_1 = front-known c.args.places.now c.args.inputs c.requires.fact_1; fact_2 = simp length-take (omega arith) }

pub total_of-pool-requires : goal.total_of-pool-requires
total_of-pool-requires c =
    record { fact_1 = back-known c.args.places.now c.args.inputs c.requires.fact_1; fact_2 = simp (length-take, length-drop) (omega arith) }

pub returns : goal.returns
returns c =
    within-is c.args.places.now c.args.inputs c.largest_of-largest.ensures
    c.total_of-coefficients.ensures c.total_of-pool.ensures
