use native.Mathlib.Omega.{arith}
use mathlib.Core.Path.{◌∙◌}
use lib.ListN.{length-take, length-drop}
use Rattle.product.specs.Times.{times-small, into-lens, into-small, into-padded}
use borrow.Author.Rules.{rules}
use Rattle.product.proofs.kernel.multiply_into.Goals as goal

pub count_of-z-requires : goal.count_of-z-requires
count_of-z-requires c =
    into-lens c.requires c.args.a.now c.args.b.now c.multiply_front-r.ensures.stands

pub offset_bounds-out-z : goal.offset_bounds-out-z
offset_bounds-out-z c =
    omega (
      arith,
      into-small c.requires c.args.a.now c.args.b.now
          c.multiply_front-r.ensures.stands c.count_of-z.ensures,
      times-small c.requires,
    )

pub slice_bounds-clear-count : goal.slice_bounds-clear-count
slice_bounds-clear-count c =
    omega (
      arith,
      into-small c.requires c.args.a.now c.args.b.now
          c.multiply_front-r.ensures.stands c.count_of-z.ensures,
    )

pub slice_bounds-clear-start : goal.slice_bounds-clear-start
slice_bounds-clear-start c =
    omega (
      arith,
      into-small c.requires c.args.a.now c.args.b.now
          c.multiply_front-r.ensures.stands c.count_of-z.ensures,
    )

pub slice_bounds-clear-end : goal.slice_bounds-clear-end
slice_bounds-clear-end c =
    omega (arith, c.multiply_front-r.auto.out, c.requires.out)

pub returns : goal.returns
returns c =
    let k = c.multiply_front-r.auto.out in
    let o = c.requires.out in record {
      lengths = c.multiply_front-r.ensures.stands.lengths;
      written = into-padded c.requires c.args.a.now c.args.b.now c.multiply_front-r.ensures.stands (k ∙ o)
          c.count_of-z.ensures c.clear.ensures
          (simp (
            length-take,
            length-drop,
          ) (omega (
            arith,
            k,
            o,
            into-small c.requires c.args.a.now c.args.b.now c.multiply_front-r.ensures.stands
                c.count_of-z.ensures,
          )));
      spent = search rules;
    }
