use native.Mathlib.Omega.{arith}
use borrow.Author.Rules.{rules}
use mathlib.Core.Path.{◌≡◌, sym, ◌∙◌}
use lib.ListN.{length}
use lib.Seq.{length-take-le}
use Rattle.model.specs.Header.{stored}
use Rattle.shape_operands.specs.Operand.{taken, aside-within, within-full}
use Rattle.substitution.specs.Placed.{substituting-given, value-head, value-lengths, value_count_lem, value-kept}
use Rattle.substitution.proofs.kernel.substitute_to.Goals as goal

pub slice_bounds-front_to-end-2 : goal.slice_bounds-front_to-end-2
slice_bounds-front_to-end-2 c = sym (length-take-le _ _ c.requires.fact_4.spare)

pub front_to-r-requires : goal.front_to-r-requires
front_to-r-requires c =
    record {
      fact_1 = substituting-given c.requires.fact_1 (length-take-le _ _ c.requires.fact_4.spare);
      fact_2 = c.requires.fact_2;
      fact_3
          = c.requires.fact_3;
      fact_4 = c.requires.fact_4.room;
    }

pub count_of-z-requires : goal.count_of-z-requires
count_of-z-requires c =
    let full : length (taken c.args.p c.args.a.now c.args.out.now).coeffs ≡ stored c.args.p.head =
    within-full (aside-within c.args.a.now c.args.out.now c.requires.fact_2) in
    value-lengths c.requires.fact_1 (taken c.args.p c.args.a.now c.args.out.now).coeffs
    (taken c.args.q c.args.b.now c.args.out.now).coeffs
    (full) c.front_to-r.ensures.wrote

pub overflow_add-at : goal.overflow_add-at
overflow_add-at c =
    let full : length (taken c.args.p c.args.a.now c.args.out.now).coeffs ≡ stored c.args.p.head =
    within-full (aside-within c.args.a.now c.args.out.now c.requires.fact_2) in
    omega (
      arith,
      c.requires.fact_4.room,
      c.well_formed,
      value_count_lem c.requires.fact_1 (taken c.args.p c.args.a.now c.args.out.now).coeffs
          (taken c.args.q c.args.b.now c.args.out.now).coeffs (full)
          c.front_to-r.ensures.wrote c.count_of-z.ensures,
    )

pub overflow_add-at-2 : goal.overflow_add-at-2
overflow_add-at-2 c =
    omega (arith, c.requires.fact_4.room, c.well_formed)

pub pad-requires : goal.pad-requires
pad-requires c =
    let full : length (taken c.args.p c.args.a.now c.args.out.now).coeffs ≡ stored c.args.p.head =
    within-full (aside-within c.args.a.now c.args.out.now c.requires.fact_2) in (
      omega (
        arith,
        value_count_lem c.requires.fact_1 (taken c.args.p c.args.a.now c.args.out.now).coeffs
            (taken c.args.q c.args.b.now c.args.out.now).coeffs (full) c.front_to-r.ensures.wrote
            c.count_of-z.ensures,
      ),
      omega (arith, c.requires.fact_4.room, c.front_to-r.ensures.wrote.stays.below.len),
    )

pub returns : goal.returns
returns c =
    let full : length (taken c.args.p c.args.a.now c.args.out.now).coeffs ≡ stored c.args.p.head =
    within-full (aside-within c.args.a.now c.args.out.now c.requires.fact_2) in
    record {
      head = c.with_lengths.ensures
          ∙ value-head c.requires.fact_1 (taken c.args.p c.args.a.now c.args.out.now).coeffs
          (taken c.args.q c.args.b.now c.args.out.now).coeffs (full) c.front_to-r.ensures.wrote;
      kept = value-kept c.requires.fact_1 (taken c.args.p c.args.a.now c.args.out.now).coeffs
          (taken c.args.q c.args.b.now c.args.out.now).coeffs (full) c.front_to-r.ensures.wrote
          c.count_of-z.ensures c.pad.ensures;
      spent = search rules;
    }
