use Rattle.npy_grammar.specs.Reading.{strip, eat, past_key}
use Rattle.npy_grammar.specs.Text.{is_blank}
use Rattle.npy_pieces.specs.Places.{passes, then}
use Rattle.npy_header.proofs.past_key.Goals as goal

pub returns : goal.returns
unfolding passes past_key
returns c =
    then (strip is_blank)
    (then (eat 58)
    (then (strip is_blank) (then (eat c.args.q)
    c.eat_word.ensures c.eat_byte-b.ensures)
    c.skip.ensures) c.eat_byte.ensures) c.skip-2.ensures
