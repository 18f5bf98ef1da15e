use mathlib.Core.Path.{sym, ◌∙◌}
use Rattle.replay_shapes.specs.Told.{header_or_none}
use Rattle.shape_words.specs.Words.{good_word_lem}
use Rattle.shape_words.specs.Rules.{none-regular}
use Rattle.replay_shapes.proofs.header_or_none.Goals as goal

pub returns-then-is_good : goal.returns-then-is_good
unfolding header_or_none
returns-then-is_good c = record {
  is = simp (sym c.is_good.ensures ∙ c.if-is_good.true) c.header_of.ensures;
  rules = rw c.header_of.ensures
      (good_word_lem _ (sym c.is_good.ensures ∙ c.if-is_good.true)).regular;
}

pub returns-else-is_good : goal.returns-else-is_good
unfolding header_or_none
returns-else-is_good c = record { is = simp (sym c.is_good.ensures ∙ c.if-is_good.false) c.none.ensures; rules = rw c.none.ensures none-regular }
