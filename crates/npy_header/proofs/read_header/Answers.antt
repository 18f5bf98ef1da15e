use Rattle.npy_pieces.specs.Places.{passes}
use Rattle.npy_header.specs.Cursors.{header-found}
use Rattle.npy_header.proofs.read_header.Goals as goal

pub returns : goal.returns
unfolding passes
returns c =
    header-found c.args.text.now c.skip.ensures c.eat_byte.ensures c.no_shape.ensures
    c.read_item-a.ensures c.comma_past.ensures
    c.read_item-b.ensures
    c.comma_past-2.ensures
    c.read_item-c.ensures c.past_close.ensures
    c.skip-e.ensures c.is_last.ensures
