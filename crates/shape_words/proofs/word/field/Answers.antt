use Prim.Native.Nat.{◌/◌, ◌^◌}
use native.Mathlib.Omega.{arith}
use lib.Bits.{and_mask}
use Rattle.shape_words.proofs.word.field.Goals as goal

pub overflow_add-result : goal.overflow_add-result
overflow_add-result c = simp (and_mask (c.args.word / 2 ^ c.args.low) 6) (omega arith)

pub returns : goal.returns
returns c = simp (and_mask (c.args.word / 2 ^ c.args.low) 6)
