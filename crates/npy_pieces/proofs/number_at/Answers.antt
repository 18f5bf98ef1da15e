use Rattle.npy_pieces.specs.Places.{value-nought, value-digits, value_none}
use Rattle.npy_pieces.proofs.number_at.Goals as goal

pub returns-then-b-eq48 : goal.returns-then-b-eq48
returns-then-b-eq48 c =
    value-nought c.args.text.now c.args.at c.if-at-text.true c.if-b-eq48.true

pub returns-then-at-text : goal.returns-then-at-text
returns-then-at-text c =
    value-digits c.args.text.now c.args.at c.if-at-text.true
    c.if-b-eq48.false c.less_48.ensures.0 c.digits_at.ensures

pub returns : goal.returns
returns c = value_none c.args.text.now c.args.at c.if-at-text.false
