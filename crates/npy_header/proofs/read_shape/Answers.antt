use Rattle.npy_header.specs.Cursors.{shape-again, shape-first}
use Rattle.npy_header.proofs.read_shape.Goals as goal

pub returns-then-c-ne0 : goal.returns-then-c-ne0
returns-then-c-ne0 c =
    shape-again c.args.text.now c.args.c c.args.at c.if-c-ne0.true

pub returns : goal.returns
returns c =
    shape-first c.args.text.now c.args.c c.args.at c.if-c-ne0.false c.tuple-l.ensures
