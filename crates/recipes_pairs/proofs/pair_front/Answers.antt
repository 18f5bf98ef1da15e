use native.Mathlib.Omega.{arith}
use mathlib.Core.Path.{ap, ◌∙◌}
use Prim.Native.Nat.{◌+◌, ◌-◌, ◌*◌, ◌≤◌}
use lib.ListN.{length-take, length-drop}
use Rattle.model.specs.Header.{count}
use Rattle.recipes_pairs.specs.Pair.{pair-two, sum_combining, sum-stands, quotient_recurs}
use Rattle.recipes_pairs.specs.Pair.{quotient-stands, product-some, zero-stands, product-room, product-stands}
use borrow.Author.Rules.{rules}
use Rattle.recipes_pairs.proofs.pair_front.Goals as goal

pub count_of-na-requires : goal.count_of-na-requires
count_of-na-requires c =
    rw c.cut_to-ca.ensures (pair-two c.requires.fact_1).cut_a

pub count_of-nb-requires : goal.count_of-nb-requires
count_of-nb-requires c =
    rw c.cut_to-cb.ensures (pair-two c.requires.fact_1).cut_b

pub overflow_add-end : goal.overflow_add-end
overflow_add-end c =
    let ends : (c.count_of-na.result ≤ c.args.n) × (c.args.n + c.count_of-nb.result ≤ 8 * c.args.n) =
    let t = pair-two c.requires.fact_1 in (
      omega (
        arith,
        t.small_a,
        c.count_of-na.ensures
            ∙ ap count c.cut_to-ca.ensures,
      ),
      omega (arith, t.small_b, c.count_of-nb.ensures ∙ ap count c.cut_to-cb.ensures),
    ) in
    omega (arith, (ends).1, c.requires.fact_2, c.well_formed)

pub slice_bounds-combine-end : goal.slice_bounds-combine-end
slice_bounds-combine-end c =
    let ends : (c.count_of-na.result ≤ c.args.n) × (c.args.n + c.count_of-nb.result ≤ 8 * c.args.n) =
    let t = pair-two c.requires.fact_1 in (
      omega (
        arith,
        t.small_a,
        c.count_of-na.ensures
            ∙ ap count c.cut_to-ca.ensures,
      ),
      omega (arith, t.small_b, c.count_of-nb.ensures ∙ ap count c.cut_to-cb.ensures),
    ) in
    omega (arith, (ends).0, c.requires.fact_2)

pub slice_bounds-combine-end-then-kind-le3 : goal.slice_bounds-combine-end-then-kind-le3
slice_bounds-combine-end-then-kind-le3 c =
    let ends : (c.count_of-na.result ≤ c.args.n) × (c.args.n + c.count_of-nb.result ≤ 8 * c.args.n) =
    let t = pair-two c.requires.fact_1 in (
      omega (
        arith,
        t.small_a,
        c.count_of-na.ensures
            ∙ ap count c.cut_to-ca.ensures,
      ),
      omega (arith, t.small_b, c.count_of-nb.ensures ∙ ap count c.cut_to-cb.ensures),
    ) in
    omega (arith, (ends).1, c.requires.fact_2)

pub combine-requires : goal.combine-requires
combine-requires c =
    let ends : (c.count_of-na.result ≤ c.args.n) × (c.args.n + c.count_of-nb.result ≤ 8 * c.args.n) =
    let t = pair-two c.requires.fact_1 in (
      omega (
        arith,
        t.small_a,
        c.count_of-na.ensures
            ∙ ap count c.cut_to-ca.ensures,
      ),
      omega (arith, t.small_b, c.count_of-nb.ensures ∙ ap count c.cut_to-cb.ensures),
    ) in
    let e = ends in
    let l = c.requires.fact_2 in
    sum_combining c.requires.fact_1 c.cut_to-ca.ensures
    c.cut_to-cb.ensures
    c.count_of-na.ensures c.count_of-nb.ensures
    c.args.work.now c.args.zero c.if-kind-le3.true
    (simp (length-take, length-drop) (omega (arith, e.0)))
    (simp (length-take, length-drop) (omega (arith, e.1))) c.requires.fact_3

pub returns-then-kind-le3 : goal.returns-then-kind-le3
returns-then-kind-le3 c = record {
  stands = sum-stands c.requires.fact_1 c.cut_to-ca.ensures c.cut_to-cb.ensures c.count_of-na.ensures
      c.count_of-nb.ensures c.args.work.now c.args.zero
      c.if-kind-le3.true c.combine.ensures;
  spent = search rules;
}

pub divide_loaded-requires : goal.divide_loaded-requires
divide_loaded-requires c =
    let whole = quotient_recurs c.requires.fact_1 c.cut_to-ca.ensures
    c.cut_to-cb.ensures
    c.count_of-na.ensures
    c.count_of-nb.ensures c.args.work.now c.args.zero
    c.if-kind-le3.false c.if-kind-ne4.true c.requires.fact_2 c.requires.fact_3 in record { fact_1 = whole.0; fact_2 = whole.1 }

pub returns-then-kind-ne4 : goal.returns-then-kind-ne4
returns-then-kind-ne4 c = record {
  stands = quotient-stands c.requires.fact_1 c.cut_to-ca.ensures c.cut_to-cb.ensures c.count_of-na.ensures
      c.count_of-nb.ensures c.args.work.now c.args.zero c.if-kind-le3.false
      c.if-kind-ne4.true c.requires.fact_2 c.requires.fact_3
      c.divide_loaded.ensures.out_after;
  spent = search rules;
}

pub zero_to-requires : goal.zero_to-requires
zero_to-requires c =
    product-some c.requires.fact_1 c.cut_to-ca.ensures
    c.cut_to-cb.ensures
    c.count_of-na.ensures
    c.count_of-nb.ensures c.args.work.now c.args.zero
    c.if-kind-le3.false c.if-kind-ne4.false c.requires.fact_3

pub returns-then-zero : goal.returns-then-zero
returns-then-zero c = record {
  stands = zero-stands c.requires.fact_1 c.cut_to-ca.ensures c.cut_to-cb.ensures c.count_of-na.ensures
      c.count_of-nb.ensures c.args.work.now
      c.args.zero c.if-kind-le3.false
      c.if-kind-ne4.false c.if-zero.true
      c.zero_to.ensures;
  spent = search rules;
}

pub product-requires : goal.product-requires
product-requires c =
    product-room c.requires.fact_1 c.cut_to-ca.ensures
    c.cut_to-cb.ensures
    c.count_of-na.ensures
    c.count_of-nb.ensures c.args.work.now c.args.zero
    c.if-kind-le3.false c.if-kind-ne4.false
    c.requires.fact_2 c.requires.fact_3

pub returns : goal.returns
returns c = record {
  stands = product-stands c.requires.fact_1 c.cut_to-ca.ensures c.cut_to-cb.ensures c.count_of-na.ensures
      c.count_of-nb.ensures c.args.work.now c.args.zero c.if-kind-le3.false c.if-kind-ne4.false
      c.if-zero.false
      c.product.ensures;
  spent = search rules;
}
