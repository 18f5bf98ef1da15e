use native.Mathlib.Omega.{arith}
use borrow.Author.Count.{below_more}
use mathlib.Core.Path.{sym, ◌∙◌}
use Rattle.replay_recipes.specs.Alike.{alike-one}
use Rattle.replay_recipes.proofs.alike.alike_floats.Goals as goal

pub loop-k-init : goal.loop-k-init
loop-k-init c = (alike-one _ _, c.word_of-first.ensures)

pub returns-then-word_of-first : goal.returns-then-word_of-first
returns-then-word_of-first c =
    record {
      after = omega arith;
      within = omega arith;
      each = c.loop-k.invariant.0;
      stop = λ l e. c.if-word_of-first.true (c.word_of.ensures ∙ e ∙ sym c.loop-k.invariant.1);
    }

pub loop-k-preserved : goal.loop-k-preserved
loop-k-preserved c = (
  below_more _ _ c.loop-k.invariant.0 (λ m. sym c.word_of.ensures ∙ c.if-word_of-first.false ∙ c.loop-k.invariant.1),
  c.loop-k.invariant.1,
)

pub returns : goal.returns
returns c =
    record { after = omega arith; within = omega arith; each = λ k h m. c.loop-k.invariant.0 k (omega arith) m; stop = λ l e. absurd (omega arith) }
