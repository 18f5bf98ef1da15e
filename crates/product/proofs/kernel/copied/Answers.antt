use native.Mathlib.Omega.{arith}
use mathlib.Core.Path.{refl, sym, ◌∙◌}
use lib.ListN.{length, take}
use lib.Seq.{length-take-le, take_all}
use Rattle.product.specs.Ways.{put_front_lem}
use Rattle.product.proofs.kernel.copied.Goals as goal

pub slice_bounds-copy-end-2 : goal.slice_bounds-copy-end-2
slice_bounds-copy-end-2 c =
    sym (length-take-le _ c.args.out.now c.requires)

pub copy-requires : goal.copy-requires
copy-requires c =
    omega (arith, length-take-le (length c.args.a.now) c.args.out.now c.requires)

pub returns : goal.returns
returns c =
    put_front_lem (length c.args.a.now) refl
    (c.copy.ensures ∙ take_all
    (length (take (length c.args.a.now) c.args.out.now)) c.args.a.now
    (omega (arith, length-take-le (length c.args.a.now) c.args.out.now c.requires)))
    (c.copy.auto.to ∙ length-take-le (length c.args.a.now)
    c.args.out.now c.requires) refl
