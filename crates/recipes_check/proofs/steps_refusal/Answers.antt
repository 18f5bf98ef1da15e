use Rattle.std.proofs.lemmas.Result.{err_from_is_err_and}
use mathlib.Core.Path.{refl}
use Rattle.recipes_check.specs.Judging.{judging-room, judging-more, judging-stop, judging_end}
use Rattle.recipes_kinds.specs.Known.{step-regular}
use Rattle.recipes_check.proofs.steps_refusal.Goals as goal

pub returns-in_err-gate : goal.returns-in_err-gate
returns-in_err-gate c =
    let p = err_from_is_err_and c.from_residual.result c.from_residual.ensures.1 in
    let q = c.in_err-gate.ensures in
    rw (p.1, p.2) (record { some = q.some; holds = judging-stop c.loop-i.invariant c.loop-i-test.true q.holds q.some })

pub pack-requires : goal.pack-requires
pack-requires c = rw c.announce.ensures (step-regular _ _ c.loop-i.invariant.regular).rules

pub loop-i-preserved : goal.loop-i-preserved
loop-i-preserved c =
    judging-more c.loop-i.invariant c.loop-i-test.true
    (judging-room c.loop-i.invariant c.requires c.loop-i-test.true)
    c.in_ok-gate.ensures refl
    c.announce.ensures c.pack.ensures

pub returns : goal.returns
returns c = judging_end c.loop-i.invariant c.loop-i-test.false
