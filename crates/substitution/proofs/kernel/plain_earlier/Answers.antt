use native.Mathlib.Omega.{arith}
use mathlib.Core.Path.{refl, sym, ◌∙◌}
use lib.ListN.{drop}
use lib.Seq.{length-take-le}
use Rattle.shape_operands.specs.Lent.{front_kept}
use Rattle.shape_operands.specs.Operand.{aside-within}
use Rattle.substitution.specs.Placed.{wrote_of}
use borrow.Author.Rules.{rules}
use Rattle.substitution.proofs.kernel.plain_earlier.Goals as goal

pub slice_bounds-plain_from-end-2 : goal.slice_bounds-plain_from-end-2
slice_bounds-plain_from-end-2 c =
    sym (length-take-le c.args.n c.args.work.now (omega (arith, c.requires.fact_4)))

pub plain_from-r-requires : goal.plain_from-r-requires
plain_from-r-requires c =
    record {
      fact_1 = rw (length-take-le c.args.n c.args.work.now (omega (arith, c.requires.fact_4))) c.requires.fact_1;
      fact_2 =
          aside-within c.args.a.now c.args.out.now c.requires.fact_2;
    }

pub returns : goal.returns
returns c = record {
  wrote = wrote_of (front_kept c.plain_from-r.new.out
      (drop c.args.n c.args.work.now) c.keep.ensures
      (c.plain_from-r.auto.out
      ∙ (length-take-le c.args.n c.args.work.now (omega (arith, c.requires.fact_4)))) refl)
      c.plain_from-r.ensures;
  spent = search rules;
}
