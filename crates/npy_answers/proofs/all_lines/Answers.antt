use mathlib.Core.Path.{sym, ◌∙◌}
use Rattle.lists.specs.Every.{passing-none, passing-more, passing-stop, passing_end}
use Rattle.npy_answers.proofs.all_lines.Goals as goal

pub loop-k-init : goal.loop-k-init
loop-k-init c = passing-none _ _ _

pub returns-then-not-is_line : goal.returns-then-not-is_line
returns-then-not-is_line c =
    sym (passing-stop c.loop-k.invariant c.loop-k-test.true
    (sym c.is_line.ensures ∙ c.if-not-is_line.true))

pub loop-k-preserved : goal.loop-k-preserved
loop-k-preserved c =
    passing-more c.loop-k.invariant c.loop-k-test.true
    (sym c.is_line.ensures ∙ c.if-not-is_line.false)

pub returns : goal.returns
returns c = sym (passing_end c.loop-k.invariant c.loop-k-test.false)
