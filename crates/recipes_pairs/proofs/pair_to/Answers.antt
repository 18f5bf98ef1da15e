use native.Mathlib.Omega.{arith}
use mathlib.Core.Path.{◌≡◌, refl, sym, ◌∙◌}
use mathlib.Core.List.{◌++◌}
use Prim.Native.Nat.{◌+◌, ◌-◌, ◌*◌, ◌≤◌}
use lib.ListN.{length, drop, length-take, length-drop, length-append}
use lib.Seq.{length-take-le, take_at}
use Rattle.shape_operands.specs.Lent.{lying, aside-source, part-kept}
use Rattle.recipes_pairs.specs.Pair.{pair_of, left_in, right_in, pair-two, value-head, value-lengths, value_count_lem, value-kept}
use Rattle.product.specs.Room.{Stands}
use borrow.Author.Rules.{rules}
use Rattle.recipes_pairs.proofs.pair_to.Goals as goal

pub slice_bounds-load_pair-end-2 : goal.slice_bounds-load_pair-end-2
slice_bounds-load_pair-end-2 c =
    let ends : 8 * c.args.n ≤ length c.args.scratch.now =
    c.requires.fact_4.spare in
    sym (length-take-le _ _ (ends))

pub load_pair-zero-requires : goal.load_pair-zero-requires
load_pair-zero-requires c =
    let ends : 8 * c.args.n ≤ length c.args.scratch.now =
    c.requires.fact_4.spare in
    record {
      fact_1 = rw (length-take-le _ _ (ends)) (pair-two c.requires.fact_1);
      fact_2 = c.requires.fact_1.left.regular.rules;
      fact_3 =
          c.requires.fact_1.right.regular.rules;
      fact_4 = aside-source c.args.coefficients.now c.args.pool.now c.requires.fact_2;
      fact_5 =
          aside-source c.args.coefficients.now c.args.pool.now c.requires.fact_3;
    }

pub overflow_add-end : goal.overflow_add-end
overflow_add-end c =
    let g = c.requires.fact_4 in omega (arith, g.room, c.well_formed)

pub slice_bounds-pair_front-end-2 : goal.slice_bounds-pair_front-end-2
slice_bounds-pair_front-end-2 c =
    let ends : 8 * c.args.n ≤ length c.args.scratch.now =
    c.requires.fact_4.spare in
    let used : length c.load_pair-zero.new.work
    ≡ 8 * c.args.n =
    c.load_pair-zero.auto.work ∙ length-take-le _ _ (ends) in
    let rooms : 8 * c.args.n ≤ length (c.load_pair-zero.new.work ++ drop (8 * c.args.n) c.args.scratch.now) =
    simp length-append (omega (arith, used)) in
    sym (length-take-le _ _ (rooms))

pub offset_bounds-pool-at : goal.offset_bounds-pool-at
offset_bounds-pool-at c =
    let g = c.requires.fact_4 in omega (arith, g.room, c.well_formed)

pub pair_front-r-requires : goal.pair_front-r-requires
pair_front-r-requires c =
    let ends : 8 * c.args.n ≤ length c.args.scratch.now =
    c.requires.fact_4.spare in
    let used : length c.load_pair-zero.new.work
    ≡ 8 * c.args.n =
    c.load_pair-zero.auto.work ∙ length-take-le _ _ (ends) in
    let rooms : 8 * c.args.n ≤ length (c.load_pair-zero.new.work ++ drop (8 * c.args.n) c.args.scratch.now) =
    simp length-append (omega (arith, used)) in
    let g = c.requires.fact_4 in record {
      fact_1 = c.requires.fact_1;
      fact_2 = length-take-le _ _ (rooms);
      fact_3 = simp (
        length-take,
        length-drop,
      ) (omega (arith, g.room));
    }

pub count_of-z-requires : goal.count_of-z-requires
count_of-z-requires c =
    let ends : 8 * c.args.n ≤ length c.args.scratch.now =
    c.requires.fact_4.spare in
    let used : length c.load_pair-zero.new.work
    ≡ 8 * c.args.n =
    c.load_pair-zero.auto.work ∙ length-take-le _ _ (ends) in
    let stands : Stands (pair_of c.args.kind c.load_pair-zero.result c.args.h.limits
    (left_in c.args.h.limits c.args.x.lengths
    c.load_pair-zero.new.work)
    (right_in c.args.h.limits c.args.y.lengths c.args.n
    c.load_pair-zero.new.work))
    c.pair_front-r.new.out c.pair_front-r.result =
    rw (take_at c.load_pair-zero.new.work
    (drop (8 * c.args.n) c.args.scratch.now) (8 * c.args.n) (used)) at
    c.pair_front-r.ensures.stands in
    value-lengths c.requires.fact_1 (lying c.args.xi c.args.coefficients.now
    c.args.pool.now c.args.xf c.args.x).coeffs
    (lying c.args.yi c.args.coefficients.now c.args.pool.now
    c.args.yf c.args.y).coeffs c.load_pair-zero.ensures.holds c.load_pair-zero.ensures.zero
    (stands)

pub overflow_add-at : goal.overflow_add-at
overflow_add-at c =
    let ends : 8 * c.args.n ≤ length c.args.scratch.now =
    c.requires.fact_4.spare in
    let used : length c.load_pair-zero.new.work
    ≡ 8 * c.args.n =
    c.load_pair-zero.auto.work ∙ length-take-le _ _ (ends) in
    let stands : Stands (pair_of c.args.kind c.load_pair-zero.result c.args.h.limits
    (left_in c.args.h.limits c.args.x.lengths
    c.load_pair-zero.new.work)
    (right_in c.args.h.limits c.args.y.lengths c.args.n
    c.load_pair-zero.new.work))
    c.pair_front-r.new.out c.pair_front-r.result =
    rw (take_at c.load_pair-zero.new.work
    (drop (8 * c.args.n) c.args.scratch.now) (8 * c.args.n) (used)) at
    c.pair_front-r.ensures.stands in
    let g = c.requires.fact_4 in
    omega (
      arith,
      g.room,
      c.well_formed,
      c.count_of-z.ensures,
      value_count_lem c.requires.fact_1 (lying c.args.xi c.args.coefficients.now
          c.args.pool.now c.args.xf c.args.x).coeffs
          (lying c.args.yi c.args.coefficients.now c.args.pool.now
          c.args.yf c.args.y).coeffs c.load_pair-zero.ensures.holds c.load_pair-zero.ensures.zero
          (stands),
    )

pub pad-requires : goal.pad-requires
pad-requires c =
    let lasts : length c.pair_front-r.new.out ≡ c.args.n =
    let g = c.requires.fact_4 in c.pair_front-r.auto.out ∙ simp (length-take, length-drop) (omega (arith, g.room)) in
    let ends : 8 * c.args.n ≤ length c.args.scratch.now =
    c.requires.fact_4.spare in
    let used : length c.load_pair-zero.new.work
    ≡ 8 * c.args.n =
    c.load_pair-zero.auto.work ∙ length-take-le _ _ (ends) in
    let stands : Stands (pair_of c.args.kind c.load_pair-zero.result c.args.h.limits
    (left_in c.args.h.limits c.args.x.lengths
    c.load_pair-zero.new.work)
    (right_in c.args.h.limits c.args.y.lengths c.args.n
    c.load_pair-zero.new.work))
    c.pair_front-r.new.out c.pair_front-r.result =
    rw (take_at c.load_pair-zero.new.work
    (drop (8 * c.args.n) c.args.scratch.now) (8 * c.args.n) (used)) at
    c.pair_front-r.ensures.stands in
    let g = c.requires.fact_4 in
    let l = lasts in (
      omega (
        arith,
        c.count_of-z.ensures,
        value_count_lem c.requires.fact_1 (lying c.args.xi c.args.coefficients.now
            c.args.pool.now c.args.xf c.args.x).coeffs
            (lying c.args.yi c.args.coefficients.now c.args.pool.now
            c.args.yf c.args.y).coeffs c.load_pair-zero.ensures.holds
            c.load_pair-zero.ensures.zero (stands),
      ),
      omega (arith, g.room, l),
    )

pub returns : goal.returns
returns c =
    let ends : 8 * c.args.n ≤ length c.args.scratch.now =
    c.requires.fact_4.spare in
    let used : length c.load_pair-zero.new.work
    ≡ 8 * c.args.n =
    c.load_pair-zero.auto.work ∙ length-take-le _ _ (ends) in
    let stands : Stands (pair_of c.args.kind c.load_pair-zero.result c.args.h.limits
    (left_in c.args.h.limits c.args.x.lengths
    c.load_pair-zero.new.work)
    (right_in c.args.h.limits c.args.y.lengths c.args.n
    c.load_pair-zero.new.work))
    c.pair_front-r.new.out c.pair_front-r.result =
    rw (take_at c.load_pair-zero.new.work
    (drop (8 * c.args.n) c.args.scratch.now) (8 * c.args.n) (used)) at
    c.pair_front-r.ensures.stands in
    let g = c.requires.fact_4 in record {
      head = c.with_lengths.ensures
          ∙ value-head c.requires.fact_1 (lying c.args.xi c.args.coefficients.now
          c.args.pool.now c.args.xf c.args.x).coeffs
          (lying c.args.yi c.args.coefficients.now c.args.pool.now
          c.args.yf c.args.y).coeffs c.load_pair-zero.ensures.holds c.load_pair-zero.ensures.zero
          (stands);
      kept = value-kept c.requires.fact_1 (lying c.args.xi c.args.coefficients.now
          c.args.pool.now c.args.xf c.args.x).coeffs
          (lying c.args.yi c.args.coefficients.now c.args.pool.now
          c.args.yf c.args.y).coeffs c.load_pair-zero.ensures.holds c.load_pair-zero.ensures.zero
          (stands) c.count_of-z.ensures refl
          (part-kept c.args.at (c.args.at + c.args.n) c.args.pool.now
          c.pair_front-r.new.out
          (c.pair_front-r.auto.out ∙ simp (length-take, length-drop) (omega (arith, g.room)))
          (omega arith) g.room) c.pad.ensures;
      spent = search rules;
    }
