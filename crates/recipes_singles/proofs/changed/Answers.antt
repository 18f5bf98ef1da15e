use mathlib.Core.Path.{refl, ap, ◌∙◌}
use Prim.Native.Nat.{◌-◌}
use Rattle.recipes_singles.specs.Change.{same-room, same_head, same-places, shifting, down-head, down-places, scaled-is}
use Rattle.model.specs.Refusals.{padded}
use Rattle.model.specs.Header.{stored}
use Rattle.model.specs.Poly.{Poly}
use Rattle.recipes_singles.proofs.changed.Goals as goal

pub negate_into-requires : goal.negate_into-requires
negate_into-requires c = same-room c.requires c.if-kind-eq1.true

pub returns-then-kind-eq1 : goal.returns-then-kind-eq1
returns-then-kind-eq1 c =
    record {
      head = same_head c.requires c.if-kind-eq1.true c.args.a.now;
      places = c.negate_into.ensures
          ∙ same-places c.requires c.if-kind-eq1.true c.args.a.now c.args.to.now refl;
    }

pub shift_rows-requires : goal.shift_rows-requires
shift_rows-requires c = shifting c.requires c.if-kind-eq1.false

pub returns-then-kind-eq9 : goal.returns-then-kind-eq9
returns-then-kind-eq9 c =
    record {
      head = down-head c.requires c.if-kind-eq1.false c.if-kind-eq9.true c.args.a.now;
      places = down-places c.requires
          c.if-kind-eq1.false c.if-kind-eq9.true c.args.a.now c.shift_rows.ensures;
    }

pub take_rows-requires : goal.take_rows-requires
take_rows-requires c = shifting c.requires c.if-kind-eq1.false

pub returns : goal.returns
returns c =
    record {
      head = c.take_rows.ensures.head
          ∙ ap (λ (p : Poly). p.head) (scaled-is c.requires c.if-kind-eq1.false c.if-kind-eq9.false c.args.a.now);
      places = c.take_rows.ensures.places
          ∙ ap (λ (p : Poly). padded (stored c.args.r) p.coeffs)
          (scaled-is c.requires c.if-kind-eq1.false c.if-kind-eq9.false c.args.a.now);
    }
