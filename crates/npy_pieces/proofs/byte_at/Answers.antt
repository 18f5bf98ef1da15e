use Rattle.npy_pieces.specs.Places.{peek-here, peek_end}
use Rattle.npy_pieces.proofs.byte_at.Goals as goal

pub returns-then-at-text : goal.returns-then-at-text
returns-then-at-text c = peek-here c.args.text.now c.args.at c.if-at-text.true

pub returns-else-at-text : goal.returns-else-at-text
returns-else-at-text c = peek_end c.args.text.now c.args.at c.if-at-text.false
