use Rattle.std.proofs.Common.{◌-◌}
use Rattle.series_log.proofs.+log_block.Given as goal

abbrev pub decreases-log_block : goal.decreases-log_block
decreases-log_block l = 4 - l.v
