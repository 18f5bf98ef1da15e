use mathlib.Core.Path.{◌≡◌}
use lib.ListN.{length, take}
use Rattle.shape_words.specs.InRow.{in_row}
use Rattle.series_log.specs.LogRows.{log_step, LogStacked}
use Rattle.series_log.proofs.log_rows.Given as goal

abbrev pub invariant-loop-k : goal.invariant-loop-k
invariant-loop-k l = LogStacked (in_row l.r l.v) (log_step l.lx l.r l.v l.xs) (take (in_row l.r l.v) l.initial.work) l.n
    (length l.initial.work) l.k l.work
    × (length l.row ≡ length l.initial.row)
