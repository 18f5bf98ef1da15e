use Rattle.npy_pieces.specs.Places.{passes}
use Rattle.npy_header.specs.Cursors.{close-comma, close-bare}
use Rattle.npy_header.proofs.past_close.Goals as goal

pub returns-then-byte_at-eq44 : goal.returns-then-byte_at-eq44
unfolding passes
returns-then-byte_at-eq44 c =
    close-comma c.args.text.now c.args.at c.skip-p.ensures
    c.byte_at.ensures c.if-byte_at-eq44.true
    c.past_comma.ensures c.eat_byte.ensures

pub returns : goal.returns
unfolding passes
returns c =
    close-bare c.args.text.now c.args.at c.skip-p.ensures
    c.byte_at.ensures c.if-byte_at-eq44.false c.eat_byte-2.ensures
