use native.Mathlib.Omega.{arith}
use mathlib.Core.Path.{refl}
use Rattle.npy_pieces.specs.Places.{eating-more, eating_end}
use Rattle.npy_pieces.proofs.eat_word.Goals as goal

pub loop-x-init : goal.loop-x-init
loop-x-init c = record { most = omega arith; inside = c.requires; left = refl }

pub eat_byte-p-requires : goal.eat_byte-p-requires
eat_byte-p-requires c = c.loop-x.invariant.inside

pub loop-x-preserved : goal.loop-x-preserved
loop-x-preserved c = eating-more c.loop-x.invariant c.loop-x-test.true c.eat_byte-p.ensures

pub returns : goal.returns
returns c = eating_end c.loop-x.invariant c.loop-x-test.false
