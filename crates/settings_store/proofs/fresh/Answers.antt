use native.Mathlib.Omega.{arith}
use Prim.Native.Nat.{◌≤◌}
use lib.ListN.{length}
use Rattle.lists.specs.Table.{filled_none, filled_more}
use Rattle.lists.specs.Fill.{filled-all}
use Rattle.settings_store.specs.Loops.{fresh-words, fresh-none, fresh-done, fresh-short}
use Rattle.settings_store.proofs.fresh.Goals as goal

pub returns-then-words-lt544 : goal.returns-then-words-lt544
returns-then-words-lt544 c = (fresh-short _ c.if-words-lt544.true, fresh-none _ c.if-words-lt544.true)

pub loop-i-init : goal.loop-i-init
loop-i-init c = filled_none

pub loop-i-preserved : goal.loop-i-preserved
loop-i-preserved c = filled_more c.loop-i.invariant c.fresh_word.ensures (omega arith)

pub returns : goal.returns
returns c =
    let long : 544 ≤ length c.args.words.now = omega arith in (
      fresh-done _ long,
      fresh-words _ _ long (filled-all c.loop-i.invariant c.loop-i.auto.i-end c.loop-i-test.false),
    )
