use Rattle.change_factors.specs.Scale.{put_plain_lem}
use lib.ListN.{length}
use Rattle.change_factors.proofs.put_row.Goals as goal

pub returns-then-plain : goal.returns-then-plain
returns-then-plain c =
    put_plain_lem c.args.factor (length c.args.to.now) c.args.a.now
    c.if-plain.true c.requires c.copy.ensures
