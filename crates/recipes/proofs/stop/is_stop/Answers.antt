use native.Mathlib.Omega.{arith}
use mathlib.Core.Bool.{not}
use mathlib.Core.Path.{ap, ◌∙◌}
use borrow.Author.Tests.{eq-eqb, ne_eqb}
use Rattle.model_exponential.specs.Constant.{in_range}
use Rattle.recipes.proofs.stop.is_stop.Goals as goal

pub returns-then-s-ne-EXP : goal.returns-then-s-ne-EXP
returns-then-s-ne-EXP c =
    rw (ne_eqb c.args.s.kind 11 c.if-s-ne-EXP.true)

pub offset_bounds-starts-a : goal.offset_bounds-starts-a
offset_bounds-starts-a c =
    omega (arith, (c.requires c.if-s-ne-EXP.false).starts_there, c.well_formed)

pub bounds-starts-a : goal.bounds-starts-a
bounds-starts-a c =
    (c.requires c.if-s-ne-EXP.false).starts_there

pub constant_at-constant-requires : goal.constant_at-constant-requires
constant_at-constant-requires c =
    (c.requires c.if-s-ne-EXP.false).some

pub returns : goal.returns
returns c =
    rw (eq-eqb c.args.s.kind 11 c.if-s-ne-EXP.false) (ap not (c.in_range.ensures ∙ ap in_range
    c.constant_at-constant.ensures))
