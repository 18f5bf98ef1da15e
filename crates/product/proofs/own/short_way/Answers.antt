use Rattle.product.specs.Owned.{owned_worth, short_none, short-some, owned-right, owned-full_a, owned-full_b, owned-lens}
use mathlib.Core.Path.{refl, sym, ◌∙◌}
use lib.Seq.{length-take-le}
use Rattle.product.proofs.own.short_way.Goals as goal

pub returns-then-n-eq0 : goal.returns-then-n-eq0
returns-then-n-eq0 c = short_none _ _ _ _ _ _ c.own_count-n.ensures c.if-n-eq0.true

pub stored_of-m-requires : goal.stored_of-m-requires
stored_of-m-requires c =
    owned-right (owned_worth _ _ _ _ _ _ c.own_count-n.ensures
    c.if-n-eq0.false) c.header_of-y.ensures

pub slice_bounds-light_way-end : goal.slice_bounds-light_way-end
slice_bounds-light_way-end c =
    sym (length-take-le _ _
    (owned-full_a (owned_worth _ _ _ _ _ _ c.own_count-n.ensures
    c.if-n-eq0.false)))

pub slice_bounds-light_way-end-2 : goal.slice_bounds-light_way-end-2
slice_bounds-light_way-end-2 c =
    sym (length-take-le _ _
    (owned-full_b (owned_worth _ _ _ _ _ _ c.own_count-n.ensures c.if-n-eq0.false)
    c.header_of-y.ensures c.stored_of-m.ensures))

pub light_way-requires : goal.light_way-requires
light_way-requires c =
    let whole = owned-lens (owned_worth _ _ _ _ _ _ c.own_count-n.ensures c.if-n-eq0.false)
    c.header_of-y.ensures c.stored_of-m.ensures
    c.header_of-x.ensures c.args.a.now
    c.args.b.now refl refl in record { fact_1 = whole.0; fact_2 = whole.1.0; fact_3 = whole.1.1.0; fact_4 = whole.1.1.1 }

pub returns : goal.returns
returns c =
    c.light_way.ensures
    ∙ short-some c.args.ah c.args.a.now c.args.bh c.args.b.now c.args.lent
    c.args.scratch c.own_count-n.ensures c.if-n-eq0.false
    c.header_of-x.ensures
    c.header_of-y.ensures
    c.stored_of-m.ensures
