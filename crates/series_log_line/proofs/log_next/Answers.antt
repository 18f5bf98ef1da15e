use Rattle.series_scaling.specs.Weighed.{small_float}
use Rattle.series_log_line.specs.Line.{next_place}
use Rattle.series_log_line.proofs.log_next.Goals as goal

pub int_to_float-d : goal.int_to_float-d
int_to_float-d c = small_float c.requires.few

pub returns : goal.returns
unfolding next_place
returns c = rw (c.log_sum-s.ensures, c.stored_or_zero-x.ensures)
