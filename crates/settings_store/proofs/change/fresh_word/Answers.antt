use borrow.Author.Tests.{eq-eqb, ne_eqb}
use Rattle.model_settings.specs.Words.{fresh_word}
use Rattle.settings_store.proofs.change.fresh_word.Goals as goal

pub returns-then-i-eq2 : goal.returns-then-i-eq2
unfolding fresh_word
returns-then-i-eq2 c = simp (eq-eqb _ _ c.if-i-eq2.true)

pub returns-else-i-eq2 : goal.returns-else-i-eq2
unfolding fresh_word
returns-else-i-eq2 c = simp (ne_eqb _ _ c.if-i-eq2.false)
