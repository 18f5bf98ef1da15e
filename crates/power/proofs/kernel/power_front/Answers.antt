use native.Mathlib.Omega.{arith}
use Rattle.power.specs.Room.{lain}
use Rattle.power.specs.Kept.{powers-some, powers_base}
use Rattle.power.specs.Ends.{front-none, front_same, front-more}
use borrow.Author.Rules.{rules}
use Rattle.power.proofs.kernel.power_front.Goals as goal

pub bounds-out-0 : goal.bounds-out-0
bounds-out-0 c = omega (arith, powers-some c.requires, c.requires.out)

pub returns-then-e-eq0 : goal.returns-then-e-eq0
returns-then-e-eq0 c = record {
  stands = front-none c.args.e c.args.limits (lain 0 c.args.la c.args.work.now)
      c.args.out.now c.if-e-eq0.true (omega (arith, powers-some c.requires, c.requires.out));
  spent = search rules;
}

pub keep-requires : goal.keep-requires
keep-requires c = let h = powers_base c.requires (omega (arith, c.if-e-eq1.true)) in (
  omega (arith, c.count_of-z.ensures, c.requires.work),
  omega (arith, c.count_of-z.ensures, c.requires.out),
)

pub returns-then-e-eq1 : goal.returns-then-e-eq1
returns-then-e-eq1 c = record {
  stands = let h = powers_base c.requires (omega (arith, c.if-e-eq1.true)) in
      front_same c.args.e c.args.limits c.args.la c.args.work.now c.if-e-eq1.true
      c.count_of-z.ensures (omega (arith, c.count_of-z.ensures, c.requires.work)) c.keep.ensures;
  spent = search rules;
}

pub returns : goal.returns
returns c = record {
  stands = front-more c.args.e c.args.limits (lain 0 c.args.la c.args.work.now)
      c.if-e-eq0.false c.if-e-eq1.false
      c.squarings.ensures.stands;
  spent = search rules;
}
