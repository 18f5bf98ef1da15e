use native.Mathlib.Omega.{arith}
use Prim.Native.Nat.{◌-◌}
use mathlib.Core.Path.{sym, ◌∙◌}
use borrow.Author.Count.{below_none, below_more}
use borrow.Author.Tests.{eq-eqb, ne_eqb}
use Rattle.replay_entries.proofs.tally.cleared.Goals as goal

pub loop-k-init : goal.loop-k-init
loop-k-init c = below_none _

pub returns-then-word_of-ne0 : goal.returns-then-word_of-ne0
returns-then-word_of-ne0 c =
    record {
      within = omega arith;
      each = c.loop-k.invariant;
      stop = λ l. ne_eqb _ 0 (λ e. c.if-word_of-ne0.true (c.word_of.ensures ∙ e));
    }

pub loop-k-preserved : goal.loop-k-preserved
loop-k-preserved c = below_more _ _ c.loop-k.invariant (eq-eqb _ 0 (sym c.word_of.ensures ∙ c.if-word_of-ne0.false))

pub returns : goal.returns
returns c = record { within = omega arith; each = λ k h. c.loop-k.invariant k (omega arith); stop = λ l. absurd (omega arith) }
