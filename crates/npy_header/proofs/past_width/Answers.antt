use mathlib.Core.Path.{sym, ◌∙◌}
use mathlib.Core.List.{[], ◌∷◌}
use Rattle.npy_grammar.specs.Reading.{eats}
use Rattle.npy_pieces.specs.Places.{then}
use Rattle.npy_header.specs.Cursors.{past_8, past_4, past_unquoted}
use Rattle.npy_header.proofs.past_width.Goals as goal

pub returns-then-not-is_quote : goal.returns-then-not-is_quote
returns-then-not-is_quote c =
    past_unquoted c.args.text.now c.args.at c.byte_at-q.ensures
    (sym c.is_quote.ensures ∙ c.if-not-is_quote.true)

pub returns-then-byte_at-eq56 : goal.returns-then-byte_at-eq56
returns-then-byte_at-eq56 c =
    past_8 c.args.text.now c.args.at c.byte_at-q.ensures
    (then (eats (60 ∷ 102 ∷ [])) c.eat_byte.ensures
    c.eat_word-k.ensures) c.byte_at.ensures
    (sym c.is_quote.ensures ∙ c.if-not-is_quote.false) c.if-byte_at-eq56.true
    c.eat_byte-then-byte_at-eq56.ensures c.eat_byte-then-byte_at-eq56-2.ensures

pub returns : goal.returns
returns c =
    past_4 c.args.text.now c.args.at c.byte_at-q.ensures
    (then (eats (60 ∷ 102 ∷ [])) c.eat_byte.ensures
    c.eat_word-k.ensures) c.byte_at.ensures
    (sym c.is_quote.ensures ∙ c.if-not-is_quote.false) c.if-byte_at-eq56.false
    c.eat_byte-2.ensures c.eat_byte-3.ensures
