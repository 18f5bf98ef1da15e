use Rattle.product_kept.specs.Kept.{keeps-all}
use Rattle.product_kept.proofs.keeps_header.Goals as goal

pub returns : goal.returns
returns c =
    keeps-all _ _ _ _ _ _ c.keeps_length.ensures
    c.keeps_length-2.ensures c.keeps_length-3.ensures c.keeps_length-4.ensures
