use native.Mathlib.Omega.{arith}
use borrow.Author.Count.{below_more}
use Rattle.replay_recipes.specs.Alike.{alike-one}
use Rattle.replay_recipes.proofs.alike.alike_words.Goals as goal

pub loop-k-init : goal.loop-k-init
loop-k-init c = alike-one _ _

pub returns-then-xs-k : goal.returns-then-xs-k
returns-then-xs-k c = record { after = omega arith; within = omega arith; each = c.loop-k.invariant; stop = λ l e. c.if-xs-k.true e }

pub loop-k-preserved : goal.loop-k-preserved
loop-k-preserved c = below_more _ _ c.loop-k.invariant (λ m. c.if-xs-k.false)

pub returns : goal.returns
returns c =
    record { after = omega arith; within = omega arith; each = λ k h m. c.loop-k.invariant k (omega arith) m; stop = λ l e. absurd (omega arith) }
