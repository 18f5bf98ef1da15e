use mathlib.Core.Path.{refl, sym, ◌∙◌}
use lib.Seq.{length-take-le}
use Rattle.product.specs.Ways.{put_front_lem}
use Rattle.substitution.specs.Sizes.{row-alone, cuts-lens, cuts-fits, cuts_picks, row-parts}
use Rattle.substitution.proofs.kernel.zero_put.Goals as goal

pub count_of-z-requires : goal.count_of-z-requires
count_of-z-requires c = cuts-lens c.requires c.row_lengths-c.ensures

pub slice_bounds-pick-end : goal.slice_bounds-pick-end
slice_bounds-pick-end c = cuts-fits c.requires c.row_lengths-c.ensures c.count_of-z.ensures

pub slice_bounds-pick-end-2 : goal.slice_bounds-pick-end-2
slice_bounds-pick-end-2 c =
    sym (length-take-le _ c.args.out.now (cuts-fits c.requires c.row_lengths-c.ensures c.count_of-z.ensures))

pub pick-requires : goal.pick-requires
pick-requires c =
    cuts_picks c.requires c.row_lengths-c.ensures
    (row-alone c.args.limits c.args.la c.requires.var)
    (length-take-le _ c.args.out.now
    (cuts-fits c.requires c.row_lengths-c.ensures c.count_of-z.ensures)
    ∙ c.count_of-z.ensures)

pub returns : goal.returns
returns c =
    let j =
    row-parts c.args.limits c.args.v c.args.la c.args.a.now 0
    c.row_lengths-c.ensures c.pick.ensures in
    put_front_lem c.count_of-z.result j.0 j.1
    (c.pick.auto.to
    ∙ length-take-le _ c.args.out.now
    (cuts-fits c.requires c.row_lengths-c.ensures c.count_of-z.ensures)) refl
