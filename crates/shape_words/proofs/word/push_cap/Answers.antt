use native.Mathlib.Omega.{arith}
use lib.Pow.{shl_exact}
use lib.Bits.{or_shifted}
use borrow.Author.Rules.{rules}
use Rattle.shape_words.proofs.word.push_cap.Goals as goal

pub returns : goal.returns
returns c =
    rw (shl_exact {a = c.args.word} 51 8 64 (search rules) (search rules)) (or_shifted c.args.word 8 c.args.cap (omega arith))
