use mathlib.Core.Path.{refl, sym, ap, ◌∙◌}
use Prim.Native.Nat.{ℕ}
use lib.ListN.{length}
use lib.Seq.{length-take-le}
use Rattle.lists.specs.Table.{table}
use Rattle.model.specs.Product.{scaled_at}
use Rattle.product.specs.Ways.{put_front_lem}
use Rattle.product.proofs.kernel.scaled_to.Goals as goal

pub slice_bounds-scale-end-2 : goal.slice_bounds-scale-end-2
slice_bounds-scale-end-2 c =
    sym (length-take-le _ c.args.out.now c.requires.fact_2)

pub scale-requires : goal.scale-requires
scale-requires c = length-take-le _ c.args.out.now c.requires.fact_2

pub returns : goal.returns
returns c =
    put_front_lem (length c.args.a.now) refl
    (c.scale.ensures ∙ ap (λ (k : ℕ). table k (scaled_at c.args.c c.args.a.now))
    c.requires.fact_1) (c.scale.auto.to
    ∙ length-take-le _ c.args.out.now c.requires.fact_2) refl
