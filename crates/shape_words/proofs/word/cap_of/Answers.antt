use Prim.Native.Nat.{◌/◌, ◌^◌}
use lib.Bits.{and_mask}
use Rattle.shape_words.proofs.word.cap_of.Goals as goal

pub returns : goal.returns
returns c = simp (and_mask (c.args.word / 2 ^ 5) 8)
