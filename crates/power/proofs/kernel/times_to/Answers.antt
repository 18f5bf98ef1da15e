use native.Mathlib.Omega.{arith}
use mathlib.Core.Path.{refl}
use Rattle.power.specs.Kept.{made-lens, made-small, made-placed}
use borrow.Author.Rules.{rules}
use Rattle.power.proofs.kernel.times_to.Goals as goal

pub count_of-z-requires : goal.count_of-z-requires
count_of-z-requires c =
    made-lens c.requires.fact_1 c.args.work.now refl c.times_front-r.ensures

pub keep-requires : goal.keep-requires
keep-requires c =
    let s = c.requires.fact_1 in let h = c.requires.fact_2 in
    let z =
    made-small s c.args.work.now refl
    c.times_front-r.ensures
    c.count_of-z.ensures in
    (omega (arith, s.out), omega (arith, s.work))

pub returns : goal.returns
returns c = record {
  placed = made-placed c.requires.fact_1 c.args.work.now refl c.times_front-r.ensures c.requires.fact_2
      c.count_of-z.ensures c.keep.ensures;
  spent = search rules;
}
