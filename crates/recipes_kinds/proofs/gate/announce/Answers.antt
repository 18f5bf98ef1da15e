use Rattle.recipes_kinds.specs.Known.{announced-is}
use Rattle.recipes_kinds.proofs.gate.announce.Goals as goal

pub returns : goal.returns
returns c =
    announced-is _ _ _ c.step_of-s.ensures
    c.family_of.ensures c.head_at.ensures c.head_at-2.ensures
    c.announced_of.ensures
