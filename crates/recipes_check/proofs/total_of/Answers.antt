use mathlib.Core.Path.{ap, ◌∙◌}
use Rattle.model.specs.Header.{stored}
use Rattle.recipes_check.specs.Counts.{word_ruled, summed-more, summed-fits, summed_end}
use Rattle.recipes_check.proofs.total_of.Goals as goal

pub stored_of-sum-requires : goal.stored_of-sum-requires
stored_of-sum-requires c =
    rw c.header_of.ensures (word_ruled c.args.words.now c.requires.fact_1 c.loop-word.word-index)

pub overflow_add-sum : goal.overflow_add-sum
overflow_add-sum c =
    record {
      fits =
          summed-fits c.loop-word.invariant c.requires.fact_1 c.requires.fact_2
          (c.stored_of-sum.ensures ∙ ap stored c.header_of.ensures);
    }

pub loop-word-preserved : goal.loop-word-preserved
loop-word-preserved c =
    summed-more c.loop-word.invariant
    c.requires.fact_1 c.loop-word-test.true
    (c.stored_of-sum.ensures ∙ ap stored c.header_of.ensures)

pub returns : goal.returns
returns c = summed_end c.loop-word.invariant c.loop-word-test.false
