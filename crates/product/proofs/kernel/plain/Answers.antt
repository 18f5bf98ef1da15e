use mathlib.Core.Path.{refl}
use Rattle.model.specs.Poly.{block}
use Rattle.model.specs.Refusals.{zero_f}
use Rattle.product.specs.Chosen.{kind_of, line_of, by_number}
use Rattle.product.specs.Ways.{put_same, plain_0, plain_1, plain_2, plain_3, plain_6}
use Rattle.product.specs.Ways.{plain-room-a, plain-room-b}
use Rattle.product.proofs.kernel.plain.Goals as goal

pub copied-requires : goal.copied-requires
copied-requires c = plain-room-b c.requires

pub copied-requires-in-Left : goal.copied-requires-in-Left
copied-requires-in-Left c = plain-room-a c.requires

pub scaled_to-requires-clause-fact_2 : goal.scaled_to-requires-clause-fact_2
scaled_to-requires-clause-fact_2 c = plain-room-b c.requires

pub scaled_to-requires-in-ScaledLeft-clause-fact_2 : goal.scaled_to-requires-in-ScaledLeft-clause-fact_2
scaled_to-requires-in-ScaledLeft-clause-fact_2 c = plain-room-a c.requires

pub returns-in-Right : goal.returns-in-Right
returns-in-Right c =
    rw c.in-Right.is
    (put_same (plain_0 c.args.limits zero_f (block c.args.la c.args.a.now) (block c.args.lb c.args.b.now) 0 refl) c.copied.ensures)

pub returns-in-Left : goal.returns-in-Left
returns-in-Left c =
    rw c.in-Left.is
    (put_same (plain_1 c.args.limits zero_f (block c.args.la c.args.a.now) (block c.args.lb c.args.b.now) 1 refl) c.copied-in-Left.ensures)

pub returns-in-ScaledRight : goal.returns-in-ScaledRight
returns-in-ScaledRight c =
    rw c.in-ScaledRight.is
    (put_same (plain_2 c.args.limits c.in-ScaledRight.c (block c.args.la c.args.a.now) (block c.args.lb c.args.b.now) 2 refl) c.scaled_to.ensures)

pub returns-in-ScaledLeft : goal.returns-in-ScaledLeft
returns-in-ScaledLeft c =
    rw c.in-ScaledLeft.is
    (put_same (plain_3 c.args.limits c.in-ScaledLeft.c (block c.args.la c.args.a.now) (block c.args.lb c.args.b.now) 3 refl) c.scaled_to-in-ScaledLeft.ensures)

pub returns-in_default : goal.returns-in_default
returns-in_default c =
    let w = c.args.way in
    let others = c.in_default in
    put_same (plain_6 c.args.limits (line_of w).c (block c.args.la c.args.a.now) (block c.args.lb c.args.b.now) (kind_of w)
    (λ z. others.not-Right (by_number w z)) (λ z. others.not-Left (by_number w z))
    (λ z. others.not-ScaledRight _ (by_number w z)) (λ z. others.not-ScaledLeft _ (by_number w z)))
    c.general_to.ensures
