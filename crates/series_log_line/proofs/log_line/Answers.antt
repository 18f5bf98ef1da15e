use Prim.Native.Nat.{ℕ, ◌<◌, ◌-◌}
use lib.ListN.{length-set, length, take}
use mathlib.Core.List.{[], ◌∷◌}
use Rattle.lists.specs.Grow.{grow}
use native.Mathlib.Omega.{arith}
use mathlib.Core.Path.{◌≡◌, ap, ◌∙◌}
use lib.Seq.{length-take-le}
use Rattle.series_log_line.specs.Line.{next_place, grown-one, grown-more, grown-all, line-next}
use Rattle.series_log_line.proofs.log_line.Goals as goal

pub loop-k-init : goal.loop-k-init
loop-k-init c = grown-one c.args.to.now (length-set c.args.to.now 0 c.args.head) c.requires.places

pub log_next-z-requires : goal.log_next-z-requires
log_next-z-requires c =
    let small : c.loop-k.k < length c.args.to.now =
    omega (arith, c.loop-k-test.true, length-set c.args.to.now 0 c.args.head) in
    line-next c.requires small (length-take-le c.loop-k.k c.loop-k.to (omega arith))

pub loop-k-preserved : goal.loop-k-preserved
loop-k-preserved c = grown-more c.loop-k.invariant c.loop-k-test.true c.log_next-z.ensures

pub returns : goal.returns
returns c =
    grown-all c.loop-k.invariant (omega (arith, c.requires.places, length-set c.args.to.now 0 c.args.head))
    ∙ ap (λ (i : ℕ). grow (i - 1) (next_place c.args.m c.args.xs.now) (c.args.head ∷ []))
    (length-set c.args.to.now 0 c.args.head)
