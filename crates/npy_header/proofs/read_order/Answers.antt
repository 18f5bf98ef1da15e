use Rattle.npy_header.specs.Cursors.{order-again, order-first}
use Rattle.npy_header.proofs.read_order.Goals as goal

pub returns-then-c-ne0 : goal.returns-then-c-ne0
returns-then-c-ne0 c =
    order-again c.args.text.now c.args.c c.args.at c.if-c-ne0.true

pub returns : goal.returns
returns c =
    order-first c.args.text.now c.args.c c.args.at c.if-c-ne0.false
    c.past_order.ensures c.order_at.ensures
