use native.Mathlib.Omega.{arith}
use mathlib.Core.Path.{sym, ◌∙◌}
use lib.Seq.{length-take-le}
use borrow.Author.Tests.{eq-eqb, ne_eqb}
use Rattle.quotient.specs.Room.{loaded_quotient}
use Rattle.quotient.specs.Into.{recurring-fits}
use borrow.Author.Rules.{rules}
use Rattle.quotient.proofs.kernel.divide_loaded.Goals as goal

pub bounds-work-n : goal.bounds-work-n
bounds-work-n c = omega (arith, (recurring-fits c.requires.fact_1).1)

pub slice_bounds-divide_constant-end : goal.slice_bounds-divide_constant-end
slice_bounds-divide_constant-end c = (recurring-fits c.requires.fact_1).0

pub slice_bounds-divide_constant-end-then-nb-eq1 : goal.slice_bounds-divide_constant-end-then-nb-eq1
slice_bounds-divide_constant-end-then-nb-eq1 c = sym (length-take-le _ _ (recurring-fits c.requires.fact_1).0)

pub divide_constant-requires : goal.divide_constant-requires
divide_constant-requires c =
    c.requires.fact_2 c.if-nb-eq1.true ∙ sym (length-take-le _ _ (recurring-fits c.requires.fact_1).0)

pub returns-then-nb-eq1 : goal.returns-then-nb-eq1
unfolding loaded_quotient
returns-then-nb-eq1 c = record { out_after = c.divide_constant.ensures ∙ simp (eq-eqb _ _ c.if-nb-eq1.true); spent = search rules }

pub returns : goal.returns
unfolding loaded_quotient
returns c = record { out_after = c.recur.ensures.out_after ∙ simp (ne_eqb _ _ c.if-nb-eq1.false); spent = search rules }
