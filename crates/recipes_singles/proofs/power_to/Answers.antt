use native.Mathlib.Omega.{arith}
use mathlib.Core.Path.{◌≡◌, sym, ◌∙◌}
use mathlib.Core.List.{◌++◌}
use Prim.Native.Nat.{◌+◌, ◌-◌, ◌*◌, ◌≤◌}
use lib.ListN.{length, take, drop, length-take, length-drop, length-append}
use lib.Seq.{length-take-le, take_at}
use Rattle.model.specs.Header.{stored}
use Rattle.shape_operands.specs.Lent.{source, lying, aside-source, length-operand, kept_as, part-kept}
use Rattle.recipes_singles.specs.Power.{powering, base-fits, power-head, power-places}
use Rattle.power.specs.Room.{Loaded}
use borrow.Author.Rules.{rules}
use Rattle.recipes_singles.proofs.power_to.Goals as goal

pub slice_bounds-load_base-end-2 : goal.slice_bounds-load_base-end-2
slice_bounds-load_base-end-2 c =
    let ends : 8 * c.args.n ≤ length c.args.scratch.now =
    c.requires.fact_3.spare in
    sym (length-take-le _ _ (ends))

pub load_base-requires : goal.load_base-requires
load_base-requires c =
    let ends : 8 * c.args.n ≤ length c.args.scratch.now =
    c.requires.fact_3.spare in
    let bounds : c.args.from + stored c.args.x
    ≤ length (source c.args.input c.args.coefficients.now c.args.pool.now) =
    aside-source c.args.coefficients.now c.args.pool.now c.requires.fact_2 in
    record { fact_1 = c.requires.fact_1.left.regular.rules; fact_2 = base-fits c.requires.fact_1 (length-take-le _ _ (ends)); fact_3 = bounds }

pub slice_bounds-power_loaded-end-2 : goal.slice_bounds-power_loaded-end-2
slice_bounds-power_loaded-end-2 c =
    let ends : 8 * c.args.n ≤ length c.args.scratch.now =
    c.requires.fact_3.spare in
    let used : length c.load_base.new.work ≡ 8 * c.args.n =
    c.load_base.auto.work ∙ length-take-le _ _ (ends) in
    let rooms : 8 * c.args.n ≤ length (c.load_base.new.work ++ drop (8 * c.args.n) c.args.scratch.now) =
    simp length-append (omega (arith, used)) in
    sym (length-take-le _ _ (rooms))

pub power_loaded-r-requires : goal.power_loaded-r-requires
power_loaded-r-requires c =
    let ends : 8 * c.args.n ≤ length c.args.scratch.now =
    c.requires.fact_3.spare in
    let used : length c.load_base.new.work ≡ 8 * c.args.n =
    c.load_base.auto.work ∙ length-take-le _ _ (ends) in
    let rooms : 8 * c.args.n ≤ length (c.load_base.new.work ++ drop (8 * c.args.n) c.args.scratch.now) =
    simp length-append (omega (arith, used)) in
    let g = c.requires.fact_3 in
    powering c.requires.fact_1 (length-take-le _ _ (rooms))
    (simp (length-take, length-drop) (omega (arith, g.room)))

pub returns : goal.returns
returns c =
    let ends : 8 * c.args.n ≤ length c.args.scratch.now =
    c.requires.fact_3.spare in
    let used : length c.load_base.new.work ≡ 8 * c.args.n =
    c.load_base.auto.work ∙ length-take-le _ _ (ends) in
    let loaded : Loaded c.args.e (lying c.args.input c.args.coefficients.now
    c.args.pool.now c.args.from c.args.x).coeffs
    (take (8 * c.args.n) (c.load_base.new.work
    ++ drop (8 * c.args.n) c.args.scratch.now)) =
    rw (take_at c.load_base.new.work (drop (8 * c.args.n) c.args.scratch.now)
    (8 * c.args.n) (used)) c.load_base.ensures in
    let bounds : c.args.from + stored c.args.x
    ≤ length (source c.args.input c.args.coefficients.now c.args.pool.now) =
    aside-source c.args.coefficients.now c.args.pool.now c.requires.fact_2 in
    let g = c.requires.fact_3 in record {
      head = c.with_lengths.ensures
          ∙ power-head c.requires.fact_1 (lying c.args.input c.args.coefficients.now
          c.args.pool.now c.args.from c.args.x).coeffs (loaded)
          (length-operand c.args.from (stored c.args.x)
          (source c.args.input c.args.coefficients.now c.args.pool.now)
          (bounds)) c.power_loaded-r.ensures.lengths;
      kept = kept_as (power-places c.requires.fact_1 (lying c.args.input c.args.coefficients.now
          c.args.pool.now c.args.from c.args.x).coeffs (loaded)
          (length-operand c.args.from (stored c.args.x)
          (source c.args.input c.args.coefficients.now
          c.args.pool.now) (bounds)) c.power_loaded-r.ensures.written)
          (part-kept c.args.at (c.args.at + c.args.n) c.args.pool.now
          c.power_loaded-r.new.out
          (c.power_loaded-r.auto.out ∙ simp (length-take, length-drop) (omega (arith, g.room)))
          (omega arith) g.room);
      spent = search rules;
    }
