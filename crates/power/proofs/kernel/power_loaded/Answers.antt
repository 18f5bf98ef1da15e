use native.Mathlib.Omega.{arith}
use mathlib.Core.Path.{refl, ◌∙◌}
use lib.ListN.{length-take, length-drop}
use Rattle.power.specs.Kept.{powers-most}
use Rattle.power.specs.Ends.{ends-lens, ends-small, ends-padded}
use borrow.Author.Rules.{rules}
use Rattle.power.proofs.kernel.power_loaded.Goals as goal

pub count_of-z-requires : goal.count_of-z-requires
count_of-z-requires c =
    ends-lens c.requires c.args.work.now refl c.power_front-r.ensures.stands

pub offset_bounds-out-z : goal.offset_bounds-out-z
offset_bounds-out-z c =
    omega (
      arith,
      ends-small c.requires c.args.work.now refl c.power_front-r.ensures.stands c.count_of-z.ensures,
      powers-most c.requires,
    )

pub slice_bounds-clear-count : goal.slice_bounds-clear-count
slice_bounds-clear-count c =
    ends-small c.requires c.args.work.now refl c.power_front-r.ensures.stands c.count_of-z.ensures

pub slice_bounds-clear-start : goal.slice_bounds-clear-start
slice_bounds-clear-start c =
    ends-small c.requires c.args.work.now refl c.power_front-r.ensures.stands c.count_of-z.ensures

pub returns : goal.returns
returns c =
    let k = c.power_front-r.auto.out in
    let o = c.requires.out in record {
      lengths = c.power_front-r.ensures.stands.lengths;
      written = ends-padded c.requires c.args.work.now refl c.power_front-r.ensures.stands (k ∙ o) c.count_of-z.ensures
          c.clear.ensures (simp (length-take, length-drop)
          (omega (
            arith,
            k,
            o,
            ends-small c.requires c.args.work.now refl c.power_front-r.ensures.stands c.count_of-z.ensures,
          )));
      spent = search rules;
    }
