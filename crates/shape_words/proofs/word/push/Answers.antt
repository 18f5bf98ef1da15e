use native.Mathlib.Omega.{arith}
use lib.Pow.{shl_exact}
use lib.Bits.{or_shifted}
use Prim.Native.Nat.{◌-◌}
use borrow.Author.Rules.{rules}
use Rattle.shape_words.proofs.word.push.Goals as goal

pub returns : goal.returns
returns c = rw (shl_exact {a = c.args.word} 58 6 64 (search rules) (search rules)) (or_shifted c.args.word 6 (c.args.x - 1) (omega arith))
