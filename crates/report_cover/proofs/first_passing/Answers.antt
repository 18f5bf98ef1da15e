use native.Mathlib.Omega.{arith}
use Rattle.model_forecast.specs.Covered.{first_passing}
use Rattle.report_cover.proofs.first_passing.Goals as goal

pub returns-then-passes : goal.returns-then-passes
unfolding first_passing
returns-then-passes c = record { is = rw (← c.passes.ensures, c.if-passes.true); small = omega arith }

pub returns-then-passes-2 : goal.returns-then-passes-2
unfolding first_passing
returns-then-passes-2 c = record { is = rw (← c.passes.ensures, c.if-passes.false, ← c.passes-2.ensures, c.if-passes-2.true); small = omega arith }

pub returns-then-passes-3 : goal.returns-then-passes-3
unfolding first_passing
returns-then-passes-3 c = record {
  is = rw (
    ← c.passes.ensures,
    c.if-passes.false,
    ← c.passes-2.ensures,
    c.if-passes-2.false,
    ← c.passes-3.ensures,
    c.if-passes-3.true,
  );
  small = omega arith;
}

pub returns : goal.returns
unfolding first_passing
returns c = record {
  is = rw (
    ← c.passes.ensures,
    c.if-passes.false,
    ← c.passes-2.ensures,
    c.if-passes-2.false,
    ← c.passes-3.ensures,
    c.if-passes-3.false,
  );
  small = omega arith;
}
