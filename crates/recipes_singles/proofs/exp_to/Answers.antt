use native.Mathlib.Omega.{arith}
use mathlib.Core.Path.{◌≡◌, sym, ◌∙◌}
use mathlib.Core.List.{◌++◌}
use Prim.Native.Nat.{◌+◌, ◌-◌, ◌*◌, ◌≤◌}
use lib.ListN.{length, drop, length-append, length-drop}
use lib.Seq.{length-take-le}
use Rattle.model.specs.Header.{stored}
use Rattle.shape_operands.specs.Lent.{source, lying, aside-source, length-operand, front_kept}
use Rattle.recipes_singles.specs.Exponential.{exponential-head, exponential-full}
use borrow.Author.Rules.{rules}
use Rattle.recipes_singles.proofs.exp_to.Goals as goal

pub slice_bounds-exp_from-end : goal.slice_bounds-exp_from-end
slice_bounds-exp_from-end c =
    let holds : c.args.n ≤ length c.block-value.result =
    let g = c.requires.fact_3 in omega (arith, g.small, c.block-value.ensures) in
    sym (length-take-le _ _ (holds))

pub slice_bounds-exp_from-end-3 : goal.slice_bounds-exp_from-end-3
slice_bounds-exp_from-end-3 c =
    let ends : 8 * c.args.n ≤ length c.args.scratch.now =
    c.requires.fact_3.spare in
    sym (length-take-le _ _ (ends))

pub exp_from-requires : goal.exp_from-requires
exp_from-requires c =
    let bounds : c.args.from + stored c.args.x
    ≤ length (source c.args.input c.args.coefficients.now c.args.pool.now) =
    aside-source c.args.coefficients.now c.args.pool.now c.requires.fact_2 in
    let holds : c.args.n ≤ length c.block-value.result =
    let g = c.requires.fact_3 in omega (arith, g.small, c.block-value.ensures) in
    let ends : 8 * c.args.n ≤ length c.args.scratch.now =
    c.requires.fact_3.spare in
    record { fact_1 = c.requires.fact_1; fact_2 = bounds; fact_3 = (length-take-le _ _ (holds), length-take-le _ _ (ends)) }

pub slice_bounds-keep-end : goal.slice_bounds-keep-end
slice_bounds-keep-end c =
    let holds : c.args.n ≤ length c.block-value.result =
    let g = c.requires.fact_3 in omega (arith, g.small, c.block-value.ensures) in
    let made : length c.exp_from.new.to ≡ c.args.n =
    c.exp_from.auto.to ∙ length-take-le _ _ (holds) in
    let filled : length (c.exp_from.new.to ++ drop c.args.n c.block-value.result) ≡ 4096 =
    omega (
      arith,
      length-append c.exp_from.new.to (drop c.args.n c.block-value.result),
      length-drop c.args.n c.block-value.result,
      made,
      holds,
      c.block-value.ensures,
    ) in
    sym (filled)

pub keep-requires : goal.keep-requires
keep-requires c =
    let holds : c.args.n ≤ length c.block-value.result =
    let g = c.requires.fact_3 in omega (arith, g.small, c.block-value.ensures) in
    let made : length c.exp_from.new.to ≡ c.args.n =
    c.exp_from.auto.to ∙ length-take-le _ _ (holds) in
    let filled : length (c.exp_from.new.to ++ drop c.args.n c.block-value.result) ≡ 4096 =
    omega (
      arith,
      length-append c.exp_from.new.to (drop c.args.n c.block-value.result),
      length-drop c.args.n c.block-value.result,
      made,
      holds,
      c.block-value.ensures,
    ) in
    let g = c.requires.fact_3 in (omega (arith, filled, g.small), g.room)

pub returns : goal.returns
returns c =
    let bounds : c.args.from + stored c.args.x
    ≤ length (source c.args.input c.args.coefficients.now c.args.pool.now) =
    aside-source c.args.coefficients.now c.args.pool.now c.requires.fact_2 in
    let given-full : length (((lying c.args.input c.args.coefficients.now c.args.pool.now c.args.from
    c.args.x).coeffs)) ≡ stored c.args.x =
    length-operand c.args.from (stored c.args.x)
    (source c.args.input c.args.coefficients.now c.args.pool.now) (bounds) in
    let holds : c.args.n ≤ length c.block-value.result =
    let g = c.requires.fact_3 in omega (arith, g.small, c.block-value.ensures) in
    let made : length c.exp_from.new.to ≡ c.args.n =
    c.exp_from.auto.to ∙ length-take-le _ _ (holds) in
    record {
      head = exponential-head c.requires.fact_1 (((lying c.args.input c.args.coefficients.now c.args.pool.now c.args.from
          c.args.x).coeffs)) (given-full);
      kept = front_kept c.exp_from.new.to (drop c.args.n c.block-value.result)
          c.keep.ensures (made)
          (c.exp_from.ensures.to_after ∙ sym (exponential-full c.requires.fact_1 (((lying c.args.input c.args.coefficients.now c.args.pool.now c.args.from
          c.args.x).coeffs)) (given-full)));
      spent = search rules;
    }
