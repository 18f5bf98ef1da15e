use mathlib.Core.Path.{◌∙◌}
use Rattle.shape_words.specs.Lengths.{sizes-of}
use Rattle.blocks.specs.Merge.{join-merged}
use Rattle.blocks.proofs.join_block.Goals as goal

pub longest_rows-rows-requires : goal.longest_rows-rows-requires
longest_rows-rows-requires c = record { fact_1 = sizes-of c.requires.from; fact_2 = sizes-of c.requires.to }

pub returns : goal.returns
returns c =
    c.join_rows.ensures ∙ join-merged
    c.longest_rows-rows.ensures c.args.minus c.args.a.now c.args.to.now
