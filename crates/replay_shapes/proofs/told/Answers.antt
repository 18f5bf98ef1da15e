use Rattle.shape.specs.Announced.{announced-regular}
use Rattle.replay_shapes.proofs.told.Goals as goal

pub returns : goal.returns
returns c = record {
  is = (rw (
    c.announced_of.ensures,
    c.header_or_none.ensures.is,
    c.header_or_none-2.ensures.is,
  ));
  rules = rw c.announced_of.ensures (announced-regular _ c.header_or_none.ensures.rules c.header_or_none-2.ensures.rules);
}
