use Rattle.product.specs.Ways.{put-zero}
use Rattle.product.proofs.kernel.zero_to.Goals as goal

pub returns : goal.returns
returns c = put-zero c.args.out.now c.requires
