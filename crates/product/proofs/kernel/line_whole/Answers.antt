use native.Mathlib.Omega.{arith}
use mathlib.Core.Bool.{false}
use mathlib.Core.Path.{◌≡◌, refl}
use Prim.Native.Nat.{◌<◌}
use lib.Dec.{eqb}
use lib.ListN.{length}
use lib.Ieee.{eq}
use borrow.Author.Tests.{eqb-false}
use Rattle.model.specs.Header.{count}
use Rattle.model.specs.Readings.{one_f}
use Rattle.model.specs.Poly.{block}
use Rattle.model.specs.Product.{constant_block, product_of, linear_product}
use Rattle.shape_words.specs.Lengths.{count-pos}
use Rattle.product.specs.Ways.{raises-lens}
use Rattle.product.specs.Line.{whole_room, whole-line}
use Rattle.product.specs.Lined.{neither, line-raised, line-scaled}
use borrow.Author.Rules.{rules}
use Rattle.product.proofs.kernel.line_whole.Goals as goal

pub raise_to-requires : goal.raise_to-requires
raise_to-requires c = c.requires.raises

pub returns-then-c : goal.returns-then-c
returns-then-c c = record {
  stands = line-raised c.args.limits c.args.line (block c.args.n c.args.a.now)
      c.if-c.true c.raise_to.ensures;
  spent = search rules;
}

pub linear_product-requires : goal.linear_product-requires
linear_product-requires c =
    whole_room c.args.a.now c.requires refl c.keep.ensures

pub returns-then-e-c : goal.returns-then-e-c
returns-then-e-c c = record {
  stands = whole-line c.args.a.now c.requires refl c.keep.ensures
      (λ y. linear_product (λ x. product_of 0 c.args.limits x (constant_block c.args.line.c))
      c.args.limits c.args.line y) c.linear_product.ensures;
  spent = search rules;
}

pub line_to-requires : goal.line_to-requires
line_to-requires c =
    let tests : (eqb (length c.args.a.now) 1 ≡ false) × (eq c.args.line.c one_f ≡ false) =
    neither (eqb (length c.args.a.now) 1) (eq c.args.line.c one_f) c.if-e-c.false in
    let big : 1 < count c.args.n =
    let t = c.requires.raises in
    let one = eqb-false (length c.args.a.now) 1 (tests).0 in
    let full : length c.args.a.now ≡ count c.args.n = t.full in
    omega (arith, count-pos (raises-lens t)) in
    record { fact_1 = c.requires.raises; fact_2 = big }

pub returns : goal.returns
returns c =
    let tests : (eqb (length c.args.a.now) 1 ≡ false) × (eq c.args.line.c one_f ≡ false) =
    neither (eqb (length c.args.a.now) 1) (eq c.args.line.c one_f) c.if-e-c.false in
    let big : 1 < count c.args.n =
    let t = c.requires.raises in
    let one = eqb-false (length c.args.a.now) 1 (tests).0 in
    let full : length c.args.a.now ≡ count c.args.n = t.full in
    omega (arith, count-pos (raises-lens t)) in
    record {
      stands = line-scaled c.args.limits c.args.line (block c.args.n c.args.a.now)
          c.if-c.false (tests).1 (big)
          c.line_to.ensures;
      spent = search rules;
    }
