use borrow.Author.Tests.{eq-eqb, ne_eqb}
use Rattle.model_caps.specs.Cap.{clean}
use Rattle.blocks_mask.proofs.is_clean.Goals as goal

-- src/lib.rt:104:9
pub returns-then-cap-eq0 : goal.returns-then-cap-eq0
unfolding clean
returns-then-cap-eq0 c = rw (eq-eqb c.args.cap 0 c.if-cap-eq0.true)

-- src/lib.rt:99:1
pub returns : goal.returns
unfolding clean
returns c = rw (ne_eqb c.args.cap 0 c.if-cap-eq0.false) c.rows_are_clean.ensures
