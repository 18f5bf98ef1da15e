use native.Mathlib.Omega.{arith}
use Rattle.npy_writing.specs.Front.{closing-one, closing-none}
use Rattle.npy_writing.proofs.put_closing.Goals as goal

pub returns-then-vars-eq1 : goal.returns-then-vars-eq1
returns-then-vars-eq1 c = closing-one c.if-vars-eq1.true c.put_byte.ensures

pub returns : goal.returns
returns c = closing-none (omega arith) c.if-vars-eq1.false
