use mathlib.Core.Path.{ap, ◌∙◌}
use Rattle.model.specs.Header.{stored}
use Rattle.recipes_check.specs.Counts.{word_ruled, topped-more, topped_end}
use Rattle.recipes_check.proofs.largest_of.Goals as goal

pub stored_of-requires : goal.stored_of-requires
stored_of-requires c =
    rw c.header_of.ensures (word_ruled c.args.words.now c.requires c.loop-word.word-index)

pub loop-word-preserved : goal.loop-word-preserved
loop-word-preserved c =
    topped-more c.loop-word.invariant
    c.loop-word-test.true
    (c.stored_of.ensures ∙ ap stored c.header_of.ensures) c.most-top.ensures

pub returns : goal.returns
returns c = topped_end c.loop-word.invariant c.loop-word-test.false
