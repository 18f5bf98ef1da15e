use Rattle.std.proofs.Common.{ap, ◌∙◌, arith, length-take, length-drop}
use Rattle.model.specs.Refusals.{zeros}
use Rattle.blocks_mask.specs.Masks.{masked-rest}
use Rattle.blocks_mask.proofs.mask_row.Goals as goal

pub returns : goal.returns
returns c =
    let k = c.reach-from.ensures in
    masked-rest _ _ _ _ c.args.to.now k (omega arith) (c.clear.ensures ∙ ap zeros (simp (length-take, length-drop) (omega arith)))
