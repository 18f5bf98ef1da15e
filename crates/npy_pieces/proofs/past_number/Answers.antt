use mathlib.Core.Path.{sym, ◌∙◌}
use Rattle.npy_pieces.specs.Places.{passes, past-nought, past-digits, past-other, past-none}
use Rattle.npy_pieces.proofs.past_number.Goals as goal

pub returns-then-b-eq48 : goal.returns-then-b-eq48
returns-then-b-eq48 c =
    past-nought c.args.text.now c.args.at c.if-at-text.true c.if-b-eq48.true

pub returns-then-is_of : goal.returns-then-is_of
unfolding passes
returns-then-is_of c =
    past-digits c.args.text.now c.args.at c.if-at-text.true
    c.if-b-eq48.false (sym c.is_of.ensures ∙ c.if-is_of.true)
    c.skip.ensures

pub returns-else-is_of : goal.returns-else-is_of
unfolding passes
returns-else-is_of c =
    past-other c.args.text.now c.args.at c.if-at-text.true
    c.if-b-eq48.false (sym c.is_of.ensures ∙ c.if-is_of.false)

pub returns-else-at-text : goal.returns-else-at-text
returns-else-at-text c = past-none c.args.text.now c.args.at c.if-at-text.false
