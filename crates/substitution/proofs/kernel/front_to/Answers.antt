use native.Mathlib.Omega.{arith}
use mathlib.Core.Path.{refl}
use Rattle.shape_operands.specs.Operand.{taken, aside-within}
use Rattle.substitution_way.specs.Ways.{below_horner}
use Rattle.substitution.specs.Placed.{plain-is, plain-room, horner-puts, horner-some, horner-is, wrote-same}
use borrow.Author.Rules.{rules}
use Rattle.substitution.proofs.kernel.front_to.Goals as goal

pub way_from-w-requires : goal.way_from-w-requires
way_from-w-requires c =
    record { fact_1 = c.requires.fact_1.right.rules; fact_2 = aside-within c.args.b.now c.args.out.now c.requires.fact_3 }

pub horner_to-requires : goal.horner_to-requires
horner_to-requires c =
    let a = (taken c.args.p c.args.a.now c.args.out.now).coeffs in
    let b = (taken c.args.q c.args.b.now c.args.out.now).coeffs in record {
      fact_1 = horner-puts c.requires.fact_1 a b c.way_from-w.ensures
          (rw c.in-Horner.is (omega arith));
      fact_2 = horner-some c.requires.fact_1 a b c.way_from-w.ensures (rw c.in-Horner.is (omega arith));
      fact_3 = (
        c.requires.fact_2,
        c.requires.fact_3,
      );
      fact_4 = c.requires.fact_4;
    }

pub returns-in-Horner : goal.returns-in-Horner
returns-in-Horner c = record {
  wrote = wrote-same (horner-is c.requires.fact_1 (taken c.args.p c.args.a.now c.args.out.now).coeffs
      (taken c.args.q c.args.b.now c.args.out.now).coeffs c.way_from-w.ensures
      (rw c.in-Horner.is (omega arith))) c.horner_to.ensures.wrote;
  spent = search rules;
}

pub plain_given-requires : goal.plain_given-requires
plain_given-requires c =
    record {
      fact_1 = plain-room c.requires.fact_1 (taken c.args.p c.args.a.now c.args.out.now).coeffs
          (taken c.args.q c.args.b.now c.args.out.now).coeffs
          c.way_from-w.ensures (below_horner _ c.in_default.not-Horner) refl;
      fact_2 = c.requires.fact_2;
      fact_3 = c.if-p.true;
      fact_4 = c.requires.fact_4;
    }

pub returns-then-p : goal.returns-then-p
returns-then-p c = record {
  wrote = wrote-same (plain-is c.requires.fact_1 (taken c.args.p c.args.a.now c.args.out.now).coeffs
      (taken c.args.q c.args.b.now c.args.out.now).coeffs c.way_from-w.ensures
      (below_horner _ c.in_default.not-Horner)) c.plain_given.ensures;
  spent = search rules;
}

pub plain_earlier-requires : goal.plain_earlier-requires
plain_earlier-requires c =
    record {
      fact_1 = plain-room c.requires.fact_1 (taken c.args.p c.args.a.now c.args.out.now).coeffs
          (taken c.args.q c.args.b.now c.args.out.now).coeffs
          c.way_from-w.ensures (below_horner _ c.in_default.not-Horner) refl;
      fact_2 = c.requires.fact_2;
      fact_3 = c.requires.fact_4;
      fact_4 = c.requires.fact_1.work;
    }

pub returns : goal.returns
returns c = record {
  wrote = wrote-same (plain-is c.requires.fact_1 (taken c.args.p c.args.a.now c.args.out.now).coeffs
      (taken c.args.q c.args.b.now c.args.out.now).coeffs c.way_from-w.ensures
      (below_horner _ c.in_default.not-Horner)) c.plain_earlier.ensures.wrote;
  spent = search rules;
}
