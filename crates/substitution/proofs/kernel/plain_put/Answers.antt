use native.Mathlib.Omega.{arith}
use mathlib.Core.Path.{◌≡◌, ap}
use Rattle.model.specs.Poly.{block}
use Rattle.product.specs.Ways.{put-stands}
use Rattle.substitution_way.specs.declared.Way.TheVariants.{Powers}
use Rattle.substitution_way.specs.Way.{kind_of}
use Rattle.substitution.specs.Entry.{stands_same, copied-stands}
use Rattle.substitution.specs.Placed.{plain_0, plain_1, plain_2}
use Rattle.substitution.proofs.kernel.plain_put.Goals as goal

pub copy-requires : goal.copy-requires
copy-requires c = omega (arith, c.requires.same (ap kind_of c.in-Same.is))

pub returns-in-Same : goal.returns-in-Same
returns-in-Same c =
    stands_same (plain_0 c.args.w c.args.limits c.args.v (block c.args.la c.args.a.now) (ap kind_of c.in-Same.is))
    (copied-stands c.args.la c.args.a.now c.copy.ensures (c.requires.same (ap kind_of c.in-Same.is)))

pub zero_put-requires : goal.zero_put-requires
zero_put-requires c = c.requires.row (ap kind_of c.in-Zero.is)

pub returns-in-Zero : goal.returns-in-Zero
returns-in-Zero c =
    stands_same (plain_1 c.args.w c.args.limits c.args.v (block c.args.la c.args.a.now) (ap kind_of c.in-Zero.is))
    (put-stands c.zero_put.ensures)

pub line_put-requires : goal.line_put-requires
line_put-requires c =
    let k : kind_of c.args.w ≡ 2 = ap kind_of c.in-Powers.is in
    c.requires.line (λ z. omega (arith, k, z)) (λ z. omega (arith, k, z))

pub returns-in-Powers : goal.returns-in-Powers
returns-in-Powers c =
    rw c.in-Powers.is
    (stands_same (plain_2 (Powers c.in-Powers.line) c.args.limits c.args.v (block c.args.la c.args.a.now)
    (λ z. omega (arith, z)) (λ z. omega (arith, z)))
    (put-stands c.line_put.ensures))
