use native.Mathlib.Omega.{arith}
use lib.ListN.{length}
use borrow.Author.Tests.{eq-eqb, ne_eqb}
use Rattle.model.specs.Poly.{block}
use Rattle.shape_words.specs.Lengths.{count-pos}
use Rattle.product.specs.Ways.{choose-is}
use Rattle.product.proofs.kernel.choose.Goals as goal

pub bounds-a-0 : goal.bounds-a-0
bounds-a-0 c =
    omega (arith, c.requires.fact_3, count-pos c.requires.fact_1)

pub bounds-b-0 : goal.bounds-b-0
bounds-b-0 c =
    omega (arith, c.requires.fact_4, count-pos c.requires.fact_2)

pub returns-then-ca-x : goal.returns-then-ca-x
returns-then-ca-x c =
    rw (choose-is c.args.stage (block c.args.la c.args.a.now)
    (block c.args.lb c.args.b.now) (length c.args.a.now) (length c.args.b.now)
    c.requires.fact_3 c.requires.fact_4) (simp c.if-ca-x.true)

pub returns-then-cb-y : goal.returns-then-cb-y
returns-then-cb-y c =
    rw (choose-is c.args.stage (block c.args.la c.args.a.now)
    (block c.args.lb c.args.b.now) (length c.args.a.now) (length c.args.b.now)
    c.requires.fact_3 c.requires.fact_4)
    (simp (c.if-ca-x.false, c.if-cb-y.true))

pub returns-then-ca : goal.returns-then-ca
returns-then-ca c =
    rw (
      choose-is c.args.stage (block c.args.la c.args.a.now)
          (block c.args.lb c.args.b.now) (length c.args.a.now) (length c.args.b.now)
          c.requires.fact_3 c.requires.fact_4,
      c.if-ca-x.false,
      c.if-cb-y.false,
      c.if-ca.true,
    )

pub returns-then-cb : goal.returns-then-cb
returns-then-cb c =
    rw (
      choose-is c.args.stage (block c.args.la c.args.a.now)
          (block c.args.lb c.args.b.now) (length c.args.a.now) (length c.args.b.now)
          c.requires.fact_3 c.requires.fact_4,
      c.if-ca-x.false,
      c.if-cb-y.false,
      ne_eqb _ _ c.if-ca.false,
      c.if-cb.true,
    )

pub returns-then-stage-eq0 : goal.returns-then-stage-eq0
returns-then-stage-eq0 c =
    rw (choose-is c.args.stage (block c.args.la c.args.a.now)
    (block c.args.lb c.args.b.now) (length c.args.a.now) (length c.args.b.now)
    c.requires.fact_3 c.requires.fact_4)
    (simp (
      ne_eqb _ _ c.if-ca.false,
      ne_eqb _ _ c.if-cb.false,
      eq-eqb _ _ c.if-stage-eq0.true,
    ))

pub returns : goal.returns
returns c =
    rw (choose-is c.args.stage (block c.args.la c.args.a.now)
    (block c.args.lb c.args.b.now) (length c.args.a.now) (length c.args.b.now)
    c.requires.fact_3 c.requires.fact_4)
    (simp (
      c.choose_line.ensures,
      ne_eqb _ _ c.if-ca.false,
      ne_eqb _ _ c.if-cb.false,
      ne_eqb _ _ c.if-stage-eq0.false,
    ))
