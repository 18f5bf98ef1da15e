use Rattle.npy_header.specs.Shapes.{kept_more, kept_full}
use Rattle.npy_header.proofs.push.Goals as goal

pub returns-then-v-lt4 : goal.returns-then-v-lt4
returns-then-v-lt4 c = λ l k. kept_more k c.args.x c.if-v-lt4.true

pub returns : goal.returns
returns c = λ l k. kept_full k c.args.x c.if-v-lt4.false
