use Rattle.npy_header.specs.Cursors.{order_2, order_1}
use Rattle.npy_header.proofs.order_at.Goals as goal

pub returns-then-byte_at-eq84 : goal.returns-then-byte_at-eq84
returns-then-byte_at-eq84 c =
    order_2 c.args.text.now c.args.at c.byte_at.ensures c.if-byte_at-eq84.true

pub returns : goal.returns
returns c =
    order_1 c.args.text.now c.args.at c.byte_at.ensures c.if-byte_at-eq84.false
