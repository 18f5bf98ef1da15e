use lib.Bits.{and_mask}
use Rattle.shape_words.specs.Sound.{good_word-is}
use Rattle.shape_words.proofs.word.is_good.Goals as goal

pub returns : goal.returns
returns c = simp (c.good_header.ensures, c.header_of.ensures, and_mask c.args.word 5, good_word-is)
