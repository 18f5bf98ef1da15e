use mathlib.Core.Path.{refl, sym, ◌∙◌}
use lib.Seq.{length-take-le}
use Rattle.product.specs.Ways.{put_front_lem, joins-whole, joins-fits, joins-combine, joined_is}
use Rattle.product.proofs.kernel.add_blocks.Goals as goal

pub count_of-z-requires : goal.count_of-z-requires
count_of-z-requires c = joins-whole c.requires c.max_shape-r.ensures

pub slice_bounds-combine-end : goal.slice_bounds-combine-end
slice_bounds-combine-end c = joins-fits c.requires c.max_shape-r.ensures c.count_of-z.ensures

pub slice_bounds-combine-end-2 : goal.slice_bounds-combine-end-2
slice_bounds-combine-end-2 c =
    sym (length-take-le _ c.args.out.now (joins-fits c.requires c.max_shape-r.ensures c.count_of-z.ensures))

pub combine-requires : goal.combine-requires
combine-requires c =
    joins-combine c.requires c.max_shape-r.ensures
    (length-take-le _ c.args.out.now
    (joins-fits c.requires c.max_shape-r.ensures c.count_of-z.ensures)
    ∙ c.count_of-z.ensures)

pub returns : goal.returns
returns c =
    let j =
    joined_is c.args.n c.args.m c.args.a.now c.args.b.now c.max_shape-r.ensures
    c.combine.ensures in
    put_front_lem c.count_of-z.result j.0 j.1
    (c.combine.auto.to
    ∙ length-take-le _ c.args.out.now
    (joins-fits c.requires c.max_shape-r.ensures c.count_of-z.ensures)) refl
