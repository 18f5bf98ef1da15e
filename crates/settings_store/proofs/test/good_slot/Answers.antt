use Rattle.model_settings.specs.Words.{same_content}
use Rattle.settings_store.specs.Loops.{slot-blank, slot-fresh, slot-range}
use mathlib.Core.Path.{◌∙◌}
use Rattle.settings_store.proofs.test.good_slot.Goals as goal

pub returns-then-v-k : goal.returns-then-v-k
unfolding same_content
returns-then-v-k c = slot-blank _ _ _ c.if-v-k.true

pub returns-then-k-v : goal.returns-then-k-v
unfolding same_content
returns-then-k-v c = slot-fresh _ _ _ c.if-v-k.false c.if-k-v.true

pub returns : goal.returns
returns c = c.in_range.ensures ∙ slot-range _ _ _ c.if-v-k.false c.if-k-v.false
