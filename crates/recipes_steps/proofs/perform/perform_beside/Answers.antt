use native.Mathlib.Omega.{arith}
use mathlib.Core.Path.{◌≡◌, ap, ◌∙◌}
use Prim.Native.Nat.{◌-◌, ◌≤◌}
use lib.ListN.{length}
use Rattle.model.specs.Header.{stored}
use Rattle.model.specs.Word.{header_of, word_of}
use Rattle.model.specs.Announced.{announced}
use Rattle.model_recipes.specs.Recipe.{family_of}
use Rattle.shape_operands.specs.Lent.{lying, source, aside-source, length-operand}
use Rattle.recipes_steps.specs.Ready.{value_of, making, announced-fits, lent_fewer, announced_ruled, value_ruled, value-padded}
use Rattle.recipes_steps.specs.Beside.{beside_fewer}
use borrow.Author.Rules.{rules}
use Rattle.recipes_steps.proofs.perform.perform_beside.Goals as goal

pub announced_of-h-requires : goal.announced_of-h-requires
announced_of-h-requires c =
    record { fact_1 = rw c.header_of-x.ensures c.requires.fact_1.left.regular.rules; fact_2 = rw c.header_of-y.ensures c.requires.fact_1.right.regular.rules }

pub stored_of-n-requires : goal.stored_of-n-requires
stored_of-n-requires c =
    let is-announced : c.announced_of-h.result ≡ announced (family_of 0 c.args.s) (header_of c.args.xw) (header_of c.args.yw) =
    c.announced_of-h.ensures ∙ rw (
      c.family_of.ensures,
      c.header_of-x.ensures,
      c.header_of-y.ensures,
    ) in
    rw (is-announced) (announced_ruled c.requires.fact_1 c.requires.fact_3)

pub value_to-r-requires : goal.value_to-r-requires
value_to-r-requires c =
    let is-announced : c.announced_of-h.result ≡ announced (family_of 0 c.args.s) (header_of c.args.xw) (header_of c.args.yw) =
    c.announced_of-h.ensures ∙ rw (
      c.family_of.ensures,
      c.header_of-x.ensures,
      c.header_of-y.ensures,
    ) in
    let fewer : c.stored_of-n.result ≤ c.args.room =
    announced-fits c.requires.fact_1 c.requires.fact_3 (is-announced) c.stored_of-n.ensures in
    record {
      fact_1 = rw (c.header_of-x.ensures, c.header_of-y.ensures)
          (making c.requires.fact_1 c.requires.fact_3 (is-announced)
          c.stored_of-n.ensures);
      fact_2 = rw (c.header_of-x.ensures, c.header_of-y.ensures) (beside_fewer c.requires.fact_2 (fewer));
      fact_3 = lent_fewer c.requires.fact_1 c.requires.fact_3 (fewer);
    }

pub overflow_add-at : goal.overflow_add-at
overflow_add-at c =
    let is-announced : c.announced_of-h.result ≡ announced (family_of 0 c.args.s) (header_of c.args.xw) (header_of c.args.yw) =
    c.announced_of-h.ensures ∙ rw (
      c.family_of.ensures,
      c.header_of-x.ensures,
      c.header_of-y.ensures,
    ) in
    let fewer : c.stored_of-n.result ≤ c.args.room =
    announced-fits c.requires.fact_1 c.requires.fact_3 (is-announced) c.stored_of-n.ensures in
    let g = c.requires.fact_3 in omega (arith, g.room, fewer, c.well_formed)

pub overflow_add-at-2 : goal.overflow_add-at-2
overflow_add-at-2 c =
    let g = c.requires.fact_3 in omega (arith, g.room, c.well_formed)

pub pad-requires : goal.pad-requires
pad-requires c =
    let is-announced : c.announced_of-h.result ≡ announced (family_of 0 c.args.s) (header_of c.args.xw) (header_of c.args.yw) =
    c.announced_of-h.ensures ∙ rw (
      c.family_of.ensures,
      c.header_of-x.ensures,
      c.header_of-y.ensures,
    ) in
    let fewer : c.stored_of-n.result ≤ c.args.room =
    announced-fits c.requires.fact_1 c.requires.fact_3 (is-announced) c.stored_of-n.ensures in
    let g = c.requires.fact_3 in
    let l = c.value_to-r.auto.pool in
    (omega (arith, fewer), omega (arith, g.room, l))

pub pack-requires : goal.pack-requires
pack-requires c =
    let head-is : c.value_to-r.result ≡ (value_of c.args.s
    (lying c.args.xi c.args.coefficients.now c.args.pool.now
    c.args.xf (header_of c.args.xw))
    (lying c.args.yi c.args.coefficients.now c.args.pool.now
    c.args.yf (header_of c.args.yw))).head =
    rw (
      c.header_of-x.ensures,
      c.header_of-y.ensures,
    ) at c.value_to-r.ensures.head in
    let is-announced : c.announced_of-h.result ≡ announced (family_of 0 c.args.s) (header_of c.args.xw) (header_of c.args.yw) =
    c.announced_of-h.ensures ∙ rw (
      c.family_of.ensures,
      c.header_of-x.ensures,
      c.header_of-y.ensures,
    ) in
    let given : length (lying c.args.xi c.args.coefficients.now c.args.pool.now c.args.xf
    (header_of c.args.xw)).coeffs ≡ stored (header_of c.args.xw) =
    length-operand c.args.xf (stored (header_of c.args.xw))
    (source c.args.xi c.args.coefficients.now c.args.pool.now)
    (aside-source c.args.coefficients.now c.args.pool.now c.requires.fact_2.left) in
    rw (head-is)
    (value_ruled (making c.requires.fact_1 c.requires.fact_3 (is-announced) c.stored_of-n.ensures)
    (lying c.args.xi c.args.coefficients.now c.args.pool.now
    c.args.xf (header_of c.args.xw)).coeffs
    (lying c.args.yi c.args.coefficients.now c.args.pool.now
    c.args.yf (header_of c.args.yw)).coeffs (given))

pub returns : goal.returns
returns c =
    let head-is : c.value_to-r.result ≡ (value_of c.args.s
    (lying c.args.xi c.args.coefficients.now c.args.pool.now
    c.args.xf (header_of c.args.xw))
    (lying c.args.yi c.args.coefficients.now c.args.pool.now
    c.args.yf (header_of c.args.yw))).head =
    rw (
      c.header_of-x.ensures,
      c.header_of-y.ensures,
    ) at c.value_to-r.ensures.head in
    let is-announced : c.announced_of-h.result ≡ announced (family_of 0 c.args.s) (header_of c.args.xw) (header_of c.args.yw) =
    c.announced_of-h.ensures ∙ rw (
      c.family_of.ensures,
      c.header_of-x.ensures,
      c.header_of-y.ensures,
    ) in
    let given : length (lying c.args.xi c.args.coefficients.now c.args.pool.now c.args.xf
    (header_of c.args.xw)).coeffs ≡ stored (header_of c.args.xw) =
    length-operand c.args.xf (stored (header_of c.args.xw))
    (source c.args.xi c.args.coefficients.now c.args.pool.now)
    (aside-source c.args.coefficients.now c.args.pool.now c.requires.fact_2.left) in
    let fewer : c.stored_of-n.result ≤ c.args.room =
    announced-fits c.requires.fact_1 c.requires.fact_3 (is-announced) c.stored_of-n.ensures in
    record {
      word = c.pack.ensures ∙ ap word_of (head-is);
      kept = value-padded (making c.requires.fact_1 c.requires.fact_3 (is-announced) c.stored_of-n.ensures)
          (lying c.args.xi c.args.coefficients.now c.args.pool.now
          c.args.xf (header_of c.args.xw)).coeffs
          (lying c.args.yi c.args.coefficients.now c.args.pool.now
          c.args.yf (header_of c.args.yw)).coeffs (given) (fewer)
          (rw (c.header_of-x.ensures, c.header_of-y.ensures) at c.value_to-r.ensures.kept)
          c.pad.ensures;
      spent = search rules;
    }
