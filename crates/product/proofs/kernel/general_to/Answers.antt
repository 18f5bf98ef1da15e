use mathlib.Core.Path.{refl, sym, ◌∙◌}
use lib.Seq.{length-take-le}
use Rattle.product.specs.Ways.{put_front_lem, plain-lens, plain-whole, plain_fits, plain-general}
use Rattle.product.proofs.kernel.general_to.Goals as goal

pub sum_shape-r-requires : goal.sum_shape-r-requires
sum_shape-r-requires c = let whole = plain-lens c.requires in record { fact_1 = whole.0; fact_2 = whole.1 }

pub count_of-z-requires : goal.count_of-z-requires
count_of-z-requires c =
    plain-whole c.requires c.sum_shape-r.ensures

pub slice_bounds-general-end : goal.slice_bounds-general-end
slice_bounds-general-end c =
    plain_fits c.requires c.sum_shape-r.ensures c.count_of-z.ensures

pub slice_bounds-general-end-2 : goal.slice_bounds-general-end-2
slice_bounds-general-end-2 c =
    sym (length-take-le _ c.args.out.now (plain_fits c.requires c.sum_shape-r.ensures c.count_of-z.ensures))

pub general-requires : goal.general-requires
general-requires c =
    plain-general c.requires c.sum_shape-r.ensures
    (length-take-le _ c.args.out.now
    (plain_fits c.requires c.sum_shape-r.ensures c.count_of-z.ensures)
    ∙ c.count_of-z.ensures)

pub returns : goal.returns
returns c =
    put_front_lem {xs = c.general.new.out} c.count_of-z.result
    c.sum_shape-r.ensures (rw (← c.sum_shape-r.ensures) c.general.ensures)
    (c.general.auto.out
    ∙ length-take-le c.count_of-z.result c.args.out.now
    (plain_fits c.requires c.sum_shape-r.ensures c.count_of-z.ensures)) refl
