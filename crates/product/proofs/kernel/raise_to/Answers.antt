use mathlib.Core.Path.{refl, sym, ◌∙◌}
use lib.Seq.{length-take-le}
use Rattle.product.specs.Ways.{put_front_lem, raises-lens, raises-whole, raises-fits, raises-raise, raised_is}
use Rattle.product.proofs.kernel.raise_to.Goals as goal

pub grown_to-r-requires : goal.grown_to-r-requires
grown_to-r-requires c = record { fact_1 = c.requires.var; fact_2 = raises-lens c.requires }

pub count_of-z-requires : goal.count_of-z-requires
count_of-z-requires c = raises-whole c.requires c.grown_to-r.ensures

pub slice_bounds-raise-end : goal.slice_bounds-raise-end
slice_bounds-raise-end c = raises-fits c.requires c.grown_to-r.ensures c.count_of-z.ensures

pub slice_bounds-raise-end-2 : goal.slice_bounds-raise-end-2
slice_bounds-raise-end-2 c =
    sym (length-take-le _ c.args.out.now (raises-fits c.requires c.grown_to-r.ensures c.count_of-z.ensures))

pub raise-requires : goal.raise-requires
raise-requires c =
    raises-raise c.requires c.grown_to-r.ensures
    (length-take-le _ c.args.out.now
    (raises-fits c.requires c.grown_to-r.ensures c.count_of-z.ensures)
    ∙ c.count_of-z.ensures)

pub returns : goal.returns
returns c =
    let j =
    raised_is c.args.limits c.args.n c.args.line.variable c.args.line.m
    c.args.a.now c.grown_to-r.ensures c.raise.ensures in
    put_front_lem c.count_of-z.result j.0 j.1
    (c.raise.auto.to
    ∙ length-take-le _ c.args.out.now
    (raises-fits c.requires c.grown_to-r.ensures c.count_of-z.ensures)) refl
