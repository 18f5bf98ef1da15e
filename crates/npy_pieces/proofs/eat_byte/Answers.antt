use Rattle.npy_pieces.specs.Places.{eat-here, eat-other, eat-past}
use Rattle.npy_pieces.proofs.eat_byte.Goals as goal

pub returns-then-text-at : goal.returns-then-text-at
returns-then-text-at c =
    eat-here c.args.text.now c.args.at c.args.x c.if-at-text.true c.if-text-at.true

pub returns-else-text-at : goal.returns-else-text-at
returns-else-text-at c =
    eat-other c.args.text.now c.args.at c.args.x c.if-at-text.true c.if-text-at.false

pub returns-else-at-text : goal.returns-else-at-text
returns-else-at-text c = eat-past c.args.text.now c.args.at c.args.x c.if-at-text.false
