use mathlib.Core.Path.{refl, sym, ◌∙◌}
use lib.Seq.{length-take-le}
use Rattle.product.specs.Ways.{put_front_lem, raises-lens, raises-whole, raises-fits, raises-raise}
use Rattle.product.specs.Lined.{lined_in, lined-block}
use Rattle.product.proofs.kernel.line_to.Goals as goal

pub grown_to-r-requires : goal.grown_to-r-requires
grown_to-r-requires c = record { fact_1 = c.requires.fact_1.var; fact_2 = raises-lens c.requires.fact_1 }

pub count_of-z-requires : goal.count_of-z-requires
count_of-z-requires c = raises-whole c.requires.fact_1 c.grown_to-r.ensures

pub slice_bounds-line_up-end : goal.slice_bounds-line_up-end
slice_bounds-line_up-end c = (raises-fits c.requires.fact_1 c.grown_to-r.ensures c.count_of-z.ensures)

pub slice_bounds-line_up-end-2 : goal.slice_bounds-line_up-end-2
slice_bounds-line_up-end-2 c =
    sym (length-take-le _ c.args.out.now (raises-fits c.requires.fact_1 c.grown_to-r.ensures c.count_of-z.ensures))

pub line_up-requires : goal.line_up-requires
line_up-requires c =
    record {
      fact_1 = raises-raise c.requires.fact_1 c.grown_to-r.ensures
          (length-take-le _ c.args.out.now
          (raises-fits c.requires.fact_1 c.grown_to-r.ensures c.count_of-z.ensures)
          ∙ c.count_of-z.ensures);
      fact_2 = lined_in c.requires.fact_1 c.grown_to-r.ensures c.args.line.variable c.requires.fact_1.var;
    }

pub returns : goal.returns
returns c =
    let j =
    lined-block c.requires.fact_1 c.grown_to-r.ensures c.args.line.c c.args.line.m
    c.args.a.now c.requires.fact_2 c.line_up.ensures in
    put_front_lem c.count_of-z.result j.0 j.1
    (c.line_up.auto.to
    ∙ length-take-le _ c.args.out.now
    (raises-fits c.requires.fact_1 c.grown_to-r.ensures c.count_of-z.ensures)) refl
