use Rattle.npy_columns.specs.Places.{same_then}
use Rattle.npy_columns.specs.Lines.{width_of, columns-same, fit_same}
use Rattle.npy_columns.proofs.fill_columns.Goals as goal

pub roll-a-requires : goal.roll-a-requires
roll-a-requires g c = c.requires.fact_1

pub roll-b-requires : goal.roll-b-requires
roll-b-requires g c = c.roll-a.ensures.lengths

pub roll-c-requires : goal.roll-c-requires
roll-c-requires g c = c.roll-b.ensures.lengths

pub rows-requires : goal.rows-requires
rows-requires g c =
    record {
      fact_1 = c.roll-c.ensures.lengths;
      fact_2 = fit_same (same_then c.roll-a.ensures (same_then c.roll-b.ensures c.roll-c.ensures))
          c.requires.fact_2;
    }

pub returns : goal.returns
returns g c =
    columns-same (width_of g.row.WIDTH) c.args.file.now c.args.at
    (same_then c.roll-a.ensures (same_then c.roll-b.ensures c.roll-c.ensures))
    c.rows.ensures
