use Rattle.npy_writing.specs.Front.{start-put}
use mathlib.Core.Bool.{true, false}
use Rattle.npy_files.specs.Writes.{start_out, low_bytes}
use Rattle.npy_writing.proofs.put_start.Goals as goal

pub returns-then-newer : goal.returns-then-newer
unfolding start_out low_bytes
returns-then-newer c = rw c.if-newer.true (start-put true c.put_bytes.ensures)

pub returns : goal.returns
unfolding start_out low_bytes
returns c = rw c.if-newer.false (start-put false c.put_bytes-2.ensures)
