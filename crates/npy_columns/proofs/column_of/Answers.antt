use mathlib.Core.Path.{sym, ◌∙◌}
use Rattle.shape_words.specs.Lengths.{sizes-of}
use Rattle.npy_columns.specs.Places.{lengths-turned, inside-turned, column_place_lem}
use Rattle.npy_columns.proofs.column_of.Goals as goal

pub place_of-requires : goal.place_of-requires
place_of-requires c = record { fact_1 = sizes-of (lengths-turned c.requires.fact_1); fact_2 = inside-turned c.requires.fact_2 }

pub returns : goal.returns
returns c = c.place_of.ensures ∙ sym (column_place_lem c.args.n c.args.i)
