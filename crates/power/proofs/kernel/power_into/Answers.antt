use native.Mathlib.Omega.{arith}
use Rattle.power.specs.Kept.{powers_base}
use Rattle.power.specs.Ends.{loaded-same}
use borrow.Author.Rules.{rules}
use Rattle.power.proofs.kernel.power_into.Goals as goal

pub load_base-requires : goal.load_base-requires
load_base-requires c =
    λ some. let p = c.requires.fact_1 in omega (arith, powers_base p some, p.work, c.requires.fact_2)

pub returns : goal.returns
returns c =
    let e =
    loaded-same c.args.e c.args.limits c.args.la c.load_base.ensures c.requires.fact_2 in
    record { lengths = rw e at c.power_loaded.ensures.lengths; written = rw e at c.power_loaded.ensures.written; spent = search rules }
