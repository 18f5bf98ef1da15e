use Rattle.decimals_reading.specs.Tens.{tens}
use Rattle.decimals_reading.proofs.quotient.ten.Goals as goal

pub returns : goal.returns
unfolding tens
returns c = c.float_of.ensures
