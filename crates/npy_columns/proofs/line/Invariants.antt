use Rattle.npy_columns.specs.Lines.{width_of, Lined}
use Rattle.npy_columns.proofs.line.Given as goal

abbrev pub invariant-loop-x : goal.invariant-loop-x
invariant-loop-x g l = Lined (width_of g.row.WIDTH) l.file l.at l.from l.step l.initial.out l.out l.v l.x-index
