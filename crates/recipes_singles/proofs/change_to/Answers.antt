use native.Mathlib.Omega.{arith}
use mathlib.Core.Path.{sym, ap, ◌∙◌}
use Prim.Native.Nat.{ℕ, ◌-◌, ◌≤◌}
use lib.ListN.{length, drop}
use lib.Seq.{length-take-le}
use Rattle.shape_operands.specs.Lent.{lying, aside-source, front_kept}
use Rattle.recipes_singles.specs.Change.{changed_poly}
use Rattle.model.specs.Refusals.{padded}
use borrow.Author.Rules.{rules}
use Rattle.recipes_singles.proofs.change_to.Goals as goal

pub slice_bounds-change_from-end-2 : goal.slice_bounds-change_from-end-2
slice_bounds-change_from-end-2 c =
    let ends : c.args.n ≤ length c.args.scratch.now =
    let g = c.requires.fact_3 in omega (arith, g.spare) in
    sym (length-take-le _ _ (ends))

pub change_from-r-requires : goal.change_from-r-requires
change_from-r-requires c =
    let ends : c.args.n ≤ length c.args.scratch.now =
    let g = c.requires.fact_3 in omega (arith, g.spare) in
    record { fact_1 = rw (length-take-le _ _ (ends)) c.requires.fact_1; fact_2 = aside-source c.args.coefficients.now c.args.pool.now c.requires.fact_2 }

pub returns : goal.returns
returns c =
    let ends : c.args.n ≤ length c.args.scratch.now =
    let g = c.requires.fact_3 in omega (arith, g.spare) in
    record {
      head = c.change_from-r.ensures.head;
      kept = front_kept c.change_from-r.new.to
          (drop c.args.n c.args.scratch.now) c.keep.ensures
          (c.change_from-r.auto.to ∙ length-take-le _ _ (ends))
          (c.change_from-r.ensures.places ∙ ap (λ (k : ℕ).
          padded k (changed_poly c.args.kind c.args.v c.args.d
          (lying c.args.input c.args.coefficients.now c.args.pool.now
          c.args.from c.args.x)).coeffs) (sym c.requires.fact_1.room));
      spent = search rules;
    }
