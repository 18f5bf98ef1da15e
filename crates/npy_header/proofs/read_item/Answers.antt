use mathlib.Core.Path.{sym, ◌∙◌}
use Rattle.npy_pieces.specs.Places.{passes}
use Rattle.npy_header.specs.Cursors.{item-read, item-none}
use Rattle.npy_header.proofs.read_item.Goals as goal

pub returns-then-is_quote : goal.returns-then-is_quote
unfolding passes
returns-then-is_quote c =
    item-read c.args.text.now c.args.c _ c.skip-p.ensures
    c.byte_at-q.ensures
    (sym c.is_quote.ensures ∙ c.if-is_quote.true)
    c.eat_byte.ensures c.read_key.ensures

pub returns : goal.returns
unfolding passes
returns c =
    item-none c.args.text.now c.args.c c.skip-p.ensures
    c.byte_at-q.ensures (sym c.is_quote.ensures ∙ c.if-is_quote.false)
