use Rattle.npy_grammar.specs.Reading.{strip, eat}
use Rattle.npy_grammar.specs.Text.{is_blank}
use Rattle.npy_pieces.specs.Places.{passes, then}
use Rattle.npy_header.proofs.past_comma.Goals as goal

pub returns : goal.returns
unfolding passes
returns c = then (strip is_blank) (then (eat 44) c.skip.ensures c.eat_byte.ensures) c.skip-2.ensures
