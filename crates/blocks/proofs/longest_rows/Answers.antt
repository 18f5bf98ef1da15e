use Rattle.blocks.specs.Merge.{merged-more}
use Rattle.blocks.proofs.longest_rows.Goals as goal

pub loop-preserved : goal.loop-preserved
loop-preserved c = rw (c.merged.ensures, c.merged-in-loop.ensures) (merged-more c.loop.invariant c.if-rows.false)
