use Rattle.std.proofs.Common.{sym, arith}
use Rattle.lists.specs.Every.{passing_end}
use Rattle.blocks_mask.specs.Cleans.{clean-from, word_more, word-stop}
use Rattle.blocks_mask.proofs.row_is_clean.Goals as goal

pub loop-k-init : goal.loop-k-init
loop-k-init c =
    let k = c.reach-k.ensures in (omega arith, clean-from _ _ _ _ c.args.of.now (omega arith) (omega arith))

pub returns-then-word_of-ne0 : goal.returns-then-word_of-ne0
returns-then-word_of-ne0 c =
    sym (word-stop c.args.d c.args.cap _ c.args.of.now c.loop-k.invariant.1 c.loop-k-test.true (omega arith)
    c.word_of.ensures c.if-word_of-ne0.true)

pub loop-k-preserved : goal.loop-k-preserved
loop-k-preserved c = (
  omega arith,
  word_more c.args.d c.args.cap _ c.args.of.now c.loop-k.invariant.1 c.loop-k-test.true (omega arith)
      c.word_of.ensures c.if-word_of-ne0.false,
)

pub returns : goal.returns
returns c = sym (passing_end c.loop-k.invariant.1 (omega (arith, c.reach-k.ensures)))
