use Rattle.npy_grammar.specs.Text.{order_word}
use Rattle.npy_header.specs.Cursors.{past_2, past_1}
use Rattle.npy_header.proofs.past_order.Goals as goal

pub returns-then-byte_at-eq84 : goal.returns-then-byte_at-eq84
unfolding order_word
returns-then-byte_at-eq84 c =
    past_2 c.args.text.now c.args.at c.byte_at.ensures c.if-byte_at-eq84.true c.eat_word.ensures

pub returns : goal.returns
unfolding order_word
returns c =
    past_1 c.args.text.now c.args.at c.byte_at.ensures c.if-byte_at-eq84.false c.eat_word-2.ensures
