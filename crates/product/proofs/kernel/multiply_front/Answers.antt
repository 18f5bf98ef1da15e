use native.Mathlib.Omega.{arith}
use mathlib.Core.Bool.{true, ◌||◌}
use mathlib.Core.Path.{◌≡◌, refl, sym, ◌∙◌}
use Rattle.lists.specs.Test.{and_left, and_right}
use Rattle.model.specs.Poly.{block}
use Rattle.model.specs.Product.{is_zero}
use Rattle.blocks.specs.Same.{same_lengths}
use Rattle.product.specs.Ways.{put-stands}
use Rattle.product.specs.Times.{zero_is, zero_put_lem, times-some, times_any, times-small, times-lens, times-two}
use Rattle.product.specs.Times.{times-room, times-stands, times_whole_lem, whole-stands}
use borrow.Author.Rules.{rules}
use Rattle.product.proofs.kernel.multiply_front.Goals as goal

pub is_zero-requires : goal.is_zero-requires
is_zero-requires c = (times_any c.requires).0

pub is_zero-requires-2 : goal.is_zero-requires-2
is_zero-requires-2 c = (times_any c.requires).1

pub zero_to-requires : goal.zero_to-requires
zero_to-requires c =
    omega (arith, times-some c.requires, c.requires.out)

pub returns-then-is_zero : goal.returns-then-is_zero
returns-then-is_zero c =
    let zeros : (c.is_zero.result || c.is_zero-2.result)
    ≡ (is_zero (block c.args.la c.args.a.now)
    || is_zero (block c.args.lb c.args.b.now)) =
    zero_is (block c.args.la c.args.a.now) (block c.args.lb c.args.b.now) c.is_zero.ensures c.is_zero-2.ensures in
    record {
      stands = put-stands (zero_put_lem c.args.limits (block c.args.la c.args.a.now) (block c.args.lb c.args.b.now)
          (sym (zeros) ∙ c.if-is_zero.true)
          c.zero_to.ensures);
      spent = search rules;
    }

pub product_whole-requires : goal.product_whole-requires
product_whole-requires c =
    let same-a : same_lengths c.args.la c.cut_to-ca.result ≡ true =
    sym c.is_same.ensures ∙ and_left c.is_same.result c.is_same-2.result c.if-is_same.true in
    let same-b : same_lengths c.args.lb c.cut_to-cb.result ≡ true =
    sym c.is_same-2.ensures ∙ and_right c.is_same.result c.is_same-2.result c.if-is_same.true in
    times_whole_lem c.requires c.cut_to-ca.ensures c.cut_to-cb.ensures (same-a) (same-b)

pub returns-then-is_same : goal.returns-then-is_same
returns-then-is_same c =
    let same-a : same_lengths c.args.la c.cut_to-ca.result ≡ true =
    sym c.is_same.ensures ∙ and_left c.is_same.result c.is_same-2.result c.if-is_same.true in
    let same-b : same_lengths c.args.lb c.cut_to-cb.result ≡ true =
    sym c.is_same-2.ensures ∙ and_right c.is_same.result c.is_same-2.result c.if-is_same.true in
    let zeros : (c.is_zero.result || c.is_zero-2.result)
    ≡ (is_zero (block c.args.la c.args.a.now)
    || is_zero (block c.args.lb c.args.b.now)) =
    zero_is (block c.args.la c.args.a.now) (block c.args.lb c.args.b.now) c.is_zero.ensures c.is_zero-2.ensures in
    record {
      stands = whole-stands c.requires c.cut_to-ca.ensures c.cut_to-cb.ensures (same-a) (same-b) c.args.a.now
          c.args.b.now refl refl (sym (zeros) ∙ c.if-is_zero.false)
          c.product_whole.ensures.stands;
      spent = search rules;
    }

pub load_two-requires : goal.load_two-requires
load_two-requires c =
    times-two c.requires c.cut_to-ca.ensures c.cut_to-cb.ensures

pub count_of-na-requires : goal.count_of-na-requires
count_of-na-requires c =
    (times-lens c.requires c.cut_to-ca.ensures c.cut_to-cb.ensures).0

pub count_of-requires : goal.count_of-requires
count_of-requires c =
    (times-lens c.requires c.cut_to-ca.ensures c.cut_to-cb.ensures).1

pub overflow_add-end : goal.overflow_add-end
overflow_add-end c =
    omega (arith, c.count_of.ensures, (times-two c.requires c.cut_to-ca.ensures c.cut_to-cb.ensures).small_b, c.requires.work, times-small c.requires)

pub overflow_mul-n : goal.overflow_mul-n
overflow_mul-n c =
    omega (arith, times-small c.requires)

pub product-requires : goal.product-requires
product-requires c =
    times-room c.requires c.cut_to-ca.ensures c.cut_to-cb.ensures
    c.load_two.auto.work
    c.count_of-na.ensures c.count_of.ensures

pub returns : goal.returns
returns c =
    let zeros : (c.is_zero.result || c.is_zero-2.result)
    ≡ (is_zero (block c.args.la c.args.a.now)
    || is_zero (block c.args.lb c.args.b.now)) =
    zero_is (block c.args.la c.args.a.now) (block c.args.lb c.args.b.now) c.is_zero.ensures c.is_zero-2.ensures in
    record {
      stands = times-stands c.requires c.cut_to-ca.ensures c.cut_to-cb.ensures
          c.load_two.auto.work c.count_of-na.ensures
          c.count_of.ensures c.args.a.now c.args.b.now
          (sym (zeros) ∙ c.if-is_zero.false) c.load_two.ensures
          c.product.ensures;
      spent = search rules;
    }
