use Rattle.std.proofs.Common.{◌-◌}
use Rattle.series_exp.proofs.+exp_block.Given as goal

abbrev pub decreases-exp_block : goal.decreases-exp_block
decreases-exp_block l = 4 - l.v
