use Rattle.npy_grammar.specs.Text.{key_word}
use Rattle.npy_header.specs.Cursors.{key_100, key_102, key-other}
use Rattle.npy_header.proofs.read_key.Goals as goal

pub returns-then-b-eq100 : goal.returns-then-b-eq100
unfolding key_word
returns-then-b-eq100 c =
    key_100 c.args.text.now c.args.c _ c.args.at c.args.q
    c.byte_at-b.ensures c.if-b-eq100.true
    c.past_key.ensures c.read_descr.ensures

pub returns-then-b-eq102 : goal.returns-then-b-eq102
unfolding key_word
returns-then-b-eq102 c =
    key_102 c.args.text.now c.args.c _ c.args.at c.args.q
    c.byte_at-b.ensures c.if-b-eq100.false
    c.if-b-eq102.true c.past_key-then-b-eq102.ensures c.read_order.ensures

pub returns : goal.returns
unfolding key_word
returns c =
    key-other c.args.text.now c.args.c _ c.args.at c.args.q
    c.byte_at-b.ensures c.if-b-eq100.false
    c.if-b-eq102.false c.past_key-2.ensures c.read_shape.ensures
