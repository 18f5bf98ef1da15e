use mathlib.Core.Path.{◌≡◌}
use lib.ListN.{length, take}
use Rattle.shape_words.specs.InRow.{in_row}
use Rattle.series_exp.specs.NextRow.{weighed, next_row}
use Rattle.series_exp.specs.Stacked.{Stacked}
use Rattle.series_exp.proofs.exp_rows.Given as goal

abbrev pub invariant-loop-k : goal.invariant-loop-k
invariant-loop-k l = Stacked (in_row l.r l.v) (next_row l.lx l.r l.v l.xs) (take (in_row l.r l.v) l.initial.work) l.n l.e (weighed l.lx l.v l.xs)
    (length l.initial.work) l.k l.work × (length l.row ≡ length l.initial.row)
