use native.Mathlib.Omega.{arith}
use mathlib.Core.Path.{refl, ap, ◌∙◌}
use mathlib.Core.List.{List}
use Prim.Native.Nat.{◌+◌, ◌-◌}
use lib.ListN.{take}
use lib.Ieee.{Float}
use Rattle.model.specs.Header.{count}
use borrow.Rule.Slice.PartMut.{put_mid}
use Rattle.lists.specs.Part.{length_part, Kept}
use Rattle.model.specs.Poly.{block}
use Rattle.substitution.specs.Room.{turns}
use Rattle.shape_words.specs.Lengths.{lengths-pos}
use Rattle.blocks.specs.Two.{cut_places}
use Rattle.substitution.specs.Sizes.{row_picks, row_fits, put_loads, put_small, puts_adding}
use Rattle.substitution.specs.Horner.{value_in, put_in, start-one, start-front, start-room, start-stands}
use Rattle.shape_operands.specs.Lent.{part-kept, kept_as}
use Rattle.shape_operands.specs.Operand.{taken, aside-within}
use Rattle.substitution.specs.Placed.{wrote_of, same_operand, turns_wrote}
use borrow.Author.Rules.{rules}
use Rattle.substitution.proofs.kernel.horner_to.Goals as goal

pub highest-last-requires : goal.highest-last-requires
highest-last-requires c =
    (c.requires.fact_1.var, lengths-pos c.requires.fact_1.left _ c.requires.fact_1.var)

pub row_from-requires : goal.row_from-requires
row_from-requires c =
    record {
      fact_1 = row_picks c.requires.fact_1 c.row_lengths-c.ensures (omega (arith, c.highest-last.ensures)) refl;
      fact_2 = omega
          (arith, row_fits c.requires.fact_1 c.row_lengths-c.ensures, c.requires.fact_1.work);
      fact_3 = aside-within c.args.a.now
          c.args.out.now c.requires.fact_3.0;
    }

pub offset_bounds-out-at : goal.offset_bounds-out-at
offset_bounds-out-at c =
    omega (arith, c.requires.fact_4, c.well_formed)

pub first_turn-r-requires : goal.first_turn-r-requires
first_turn-r-requires c =
    puts_adding c.requires.fact_1 c.row_lengths-c.ensures
    ((length_part c.args.at (c.args.at + c.args.n) c.args.out.now (omega arith)
    c.requires.fact_4) ∙ omega arith) c.row_from.ensures.below.len

pub returns-then-last-eq0 : goal.returns-then-last-eq0
returns-then-last-eq0 c =
    let wrote : Kept c.args.at (c.args.at + c.args.n) c.first_turn-r.new.out c.args.out.now
    (put_mid c.args.at ((c.args.at + c.args.n) - c.args.at) c.args.out.now
    c.first_turn-r.new.out) =
    part-kept c.args.at (c.args.at + c.args.n) c.args.out.now
    c.first_turn-r.new.out (c.first_turn-r.auto.out
    ∙ (length_part c.args.at (c.args.at + c.args.n) c.args.out.now (omega arith)
    c.requires.fact_4)) (omega arith) c.requires.fact_4 in
    record {
      wrote = wrote_of (wrote) (start-one c.requires.fact_1
          (taken c.args.p c.args.a.now c.args.out.now).coeffs
          (taken c.args.q c.args.b.now c.args.out.now).coeffs c.requires.fact_2 c.highest-last.ensures
          c.row_lengths-c.ensures c.row_from.ensures c.first_turn-r.ensures c.if-last-eq0.true);
      spent = search rules;
    }

pub put_from-requires : goal.put_from-requires
put_from-requires c =
    let wrote : Kept c.args.at (c.args.at + c.args.n) c.first_turn-r.new.out c.args.out.now
    (put_mid c.args.at ((c.args.at + c.args.n) - c.args.at) c.args.out.now
    c.first_turn-r.new.out) =
    part-kept c.args.at (c.args.at + c.args.n) c.args.out.now
    c.first_turn-r.new.out (c.first_turn-r.auto.out
    ∙ (length_part c.args.at (c.args.at + c.args.n) c.args.out.now (omega arith)
    c.requires.fact_4)) (omega arith) c.requires.fact_4 in
    record {
      fact_1 = put_loads c.requires.fact_1 c.cut_to-lengths.ensures refl;
      fact_2 = omega (
        arith,
        put_small c.requires.fact_1 (omega (arith, c.if-last-eq0.false, c.highest-last.ensures)) c.cut_to-lengths.ensures,
        c.requires.fact_1.work,
        c.first_turn-r.ensures.below.len,
        c.row_from.ensures.below.len,
      );
      fact_3 = aside-within {at = c.args.at} {n = c.args.n} c.args.b.now
          (put_mid c.args.at ((c.args.at + c.args.n) - c.args.at) c.args.out.now
          c.first_turn-r.new.out) (rw (wrote).below.len c.requires.fact_3.1);
    }

pub rows_to-requires : goal.rows_to-requires
rows_to-requires c =
    let wrote : Kept c.args.at (c.args.at + c.args.n) c.first_turn-r.new.out c.args.out.now
    (put_mid c.args.at ((c.args.at + c.args.n) - c.args.at) c.args.out.now
    c.first_turn-r.new.out) =
    part-kept c.args.at (c.args.at + c.args.n) c.args.out.now
    c.first_turn-r.new.out (c.first_turn-r.auto.out
    ∙ (length_part c.args.at (c.args.at + c.args.n) c.args.out.now (omega arith)
    c.requires.fact_4)) (omega arith) c.requires.fact_4 in
    let loaded : Kept 0 (count c.cut_to-lengths.result) (cut_places c.args.q.head.lengths c.cut_to-lengths.result
    (taken c.args.q c.args.b.now c.args.out.now).coeffs)
    c.first_turn-r.new.work c.put_from.new.work =
    kept_as (ap (cut_places c.args.q.head.lengths c.cut_to-lengths.result)
    (same_operand c.args.q c.args.b.now c.requires.fact_3.1 (wrote))) c.put_from.ensures in
    record {
      fact_1 = start-room c.requires.fact_1 (taken c.args.p c.args.a.now c.args.out.now).coeffs
          (taken c.args.q c.args.b.now c.args.out.now).coeffs c.requires.fact_2 c.highest-last.ensures
          c.row_lengths-c.ensures c.row_from.ensures c.first_turn-r.ensures (omega (arith, c.if-last-eq0.false))
          c.cut_to-lengths.ensures (loaded) refl ((loaded).below.len
          ∙ (c.first_turn-r.ensures.below.len ∙ c.row_from.ensures.below.len));
      fact_2 = ap (take (count c.first_turn-r.result)) (wrote).holds
          ∙ start-front c.requires.fact_1 (taken c.args.p c.args.a.now c.args.out.now).coeffs
          (taken c.args.q c.args.b.now c.args.out.now).coeffs c.requires.fact_2 c.highest-last.ensures
          c.row_lengths-c.ensures c.row_from.ensures c.first_turn-r.ensures (omega (arith, c.if-last-eq0.false))
          c.cut_to-lengths.ensures (loaded);
      fact_3 = rw (wrote).below.len c.requires.fact_3.0;
      fact_4 = omega (arith, (wrote).below.len, c.requires.fact_4);
    }

pub returns : goal.returns
returns c =
    let wrote : Kept c.args.at (c.args.at + c.args.n) c.first_turn-r.new.out c.args.out.now
    (put_mid c.args.at ((c.args.at + c.args.n) - c.args.at) c.args.out.now
    c.first_turn-r.new.out) =
    part-kept c.args.at (c.args.at + c.args.n) c.args.out.now
    c.first_turn-r.new.out (c.first_turn-r.auto.out
    ∙ (length_part c.args.at (c.args.at + c.args.n) c.args.out.now (omega arith)
    c.requires.fact_4)) (omega arith) c.requires.fact_4 in
    let loaded : Kept 0 (count c.cut_to-lengths.result) (cut_places c.args.q.head.lengths c.cut_to-lengths.result
    (taken c.args.q c.args.b.now c.args.out.now).coeffs)
    c.first_turn-r.new.work c.put_from.new.work =
    kept_as (ap (cut_places c.args.q.head.lengths c.cut_to-lengths.result)
    (same_operand c.args.q c.args.b.now c.requires.fact_3.1 (wrote))) c.put_from.ensures in
    record {
      wrote = turns_wrote (ap (λ (z : List Float). turns c.args.limits c.args.v
          (block c.args.p.head.lengths z) c.highest-last.result
          (put_in c.cut_to-lengths.result c.put_from.new.work)
          (value_in c.args.n c.first_turn-r.result c.put_from.new.work))
          (same_operand c.args.p c.args.a.now c.requires.fact_3.0 (wrote))) (wrote)
          c.rows_to.ensures.wrote
          (start-stands c.requires.fact_1 (taken c.args.p c.args.a.now c.args.out.now).coeffs
          (taken c.args.q c.args.b.now c.args.out.now).coeffs c.requires.fact_2 c.highest-last.ensures
          c.row_lengths-c.ensures c.row_from.ensures c.first_turn-r.ensures (omega (arith, c.if-last-eq0.false))
          c.cut_to-lengths.ensures (loaded));
      spent = search rules;
    }
