use Rattle.npy_header.specs.Cursors.{descr-again, descr-first}
use Rattle.npy_header.proofs.read_descr.Goals as goal

pub returns-then-c-ne0 : goal.returns-then-c-ne0
returns-then-c-ne0 c =
    descr-again c.args.text.now c.args.c c.args.at c.if-c-ne0.true

pub returns : goal.returns
returns c =
    descr-first c.args.text.now c.args.c c.args.at c.if-c-ne0.false
    c.past_width.ensures c.width_at.ensures
