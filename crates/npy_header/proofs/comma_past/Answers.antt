use Rattle.npy_pieces.specs.Places.{passes}
use Rattle.npy_header.specs.Cursors.{comma-read}
use Rattle.npy_header.proofs.comma_past.Goals as goal

pub returns : goal.returns
unfolding passes
returns c =
    comma-read c.args.text.now c.args.c c.skip.ensures c.eat_byte.ensures
