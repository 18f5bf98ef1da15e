use Rattle.recipes_kinds.specs.Known.{step-regular}
use Rattle.report_causes.specs.Announced.{announcing-none, announcing-room, announcing-more, announcing_end}
use Rattle.report_causes.proofs.announced.announce_steps.Goals as goal

pub loop-i-init : goal.loop-i-init
loop-i-init c = announcing-none _ _ _ _ c.requires.regular

pub pack-requires : goal.pack-requires
pack-requires c = rw c.announce.ensures (step-regular _ _ c.loop-i.invariant.regular).rules

pub loop-i-preserved : goal.loop-i-preserved
loop-i-preserved c =
    announcing-more c.loop-i.invariant c.loop-i-test.true (announcing-room c.loop-i.invariant
    c.requires c.loop-i-test.true) c.announce.ensures
    c.pack.ensures

pub returns : goal.returns
returns c = announcing_end c.loop-i.invariant c.loop-i-test.false
