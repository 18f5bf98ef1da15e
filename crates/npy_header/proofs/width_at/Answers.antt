use mathlib.Core.List.{[], ◌∷◌}
use Rattle.npy_grammar.specs.Reading.{eats}
use Rattle.npy_pieces.specs.Places.{then}
use Rattle.npy_header.specs.Cursors.{width_8, width_4}
use Rattle.npy_header.proofs.width_at.Goals as goal

pub returns-then-byte_at-eq56 : goal.returns-then-byte_at-eq56
returns-then-byte_at-eq56 c =
    width_8 c.args.text.now c.args.at c.byte_at-q.ensures
    (then (eats (60 ∷ 102 ∷ [])) c.eat_byte.ensures
    c.eat_word-k.ensures) c.byte_at.ensures c.if-byte_at-eq56.true

pub returns : goal.returns
returns c =
    width_4 c.args.text.now c.args.at c.byte_at-q.ensures
    (then (eats (60 ∷ 102 ∷ [])) c.eat_byte.ensures
    c.eat_word-k.ensures) c.byte_at.ensures c.if-byte_at-eq56.false
