use native.Mathlib.Omega.{arith}
use Rattle.std.proofs.Common.{length-take}
use Rattle.lists.specs.Table.{filled_none, filled_more}
use Rattle.lists.specs.Fill.{filled-all}
use Rattle.settings_text.specs.Tests.{read-words}
use Rattle.settings_text.proofs.file.read_store.Goals as goal

pub loop-k-init : goal.loop-k-init
loop-k-init c = filled_none

-- there are 544 of them
pub overflow_mul-k : goal.overflow_mul-k
overflow_mul-k c = omega (arith, length-take 544 c.args.words.now)

pub word_at-requires : goal.word_at-requires
word_at-requires c = omega (arith, length-take 544 c.args.words.now)

pub loop-k-preserved : goal.loop-k-preserved
loop-k-preserved c = filled_more c.loop-k.invariant c.word_at.ensures (omega arith)

pub returns : goal.returns
returns c =
    read-words _ _ _ c.requires (filled-all c.loop-k.invariant c.loop-k.auto.k-end c.loop-k-test.false)
