use borrow.Author.Tests.{eq-eqb, ne_eqb}
use Rattle.model_caps.specs.Cap.{capped_places}
use Rattle.blocks_mask.proofs.mask.Goals as goal

pub returns-then-cap-eq0 : goal.returns-then-cap-eq0
unfolding capped_places
returns-then-cap-eq0 c = rw (eq-eqb c.args.cap 0 c.if-cap-eq0.true)

pub returns : goal.returns
unfolding capped_places
returns c =
    rw (ne_eqb c.args.cap 0 c.if-cap-eq0.false)
    c.mask_rows.ensures
