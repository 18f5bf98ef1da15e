use Rattle.std.proofs.lemmas.Result.{err_from_is_err_and}
use mathlib.Core.Path.{refl, ◌≡◌, ap, ◌∙◌}
use native.Mathlib.Omega.{arith}
use lib.ListN.{length-take}
use Rattle.model_recipes.specs.Recipe.{recipe_of, total, largest}
use Rattle.recipes_check.specs.Answered.{Passed, passed, answer_no, answer-yes}
use Rattle.recipes.proofs.check.Goals as goal

pub returns-in_err-judge : goal.returns-in_err-judge
returns-in_err-judge c =
    let p = err_from_is_err_and c.from_residual.result c.from_residual.ensures.1 in
    let q = c.in_err-judge.ensures in
    rw (p.1, p.2) (answer_no _ q.holds.answer q.some)

pub slice_bounds-total_of-end : goal.slice_bounds-total_of-end
slice_bounds-total_of-end c =
    let p : Passed (recipe_of c.args.edition c.args.headers.now c.args.steps.now) c.judge.new.known =
    passed c.in_ok-judge.ensures refl in
    omega (arith, p.fit, c.in_ok-judge.ensures.len)

pub total_of-pool-requires : goal.total_of-pool-requires
total_of-pool-requires c =
    let p : Passed (recipe_of c.args.edition c.args.headers.now c.args.steps.now) c.judge.new.known =
    passed c.in_ok-judge.ensures refl in
    record { fact_1 = rw p.part p.steps; fact_2 = simp length-take (omega (arith, p.fit)) }

pub slice_bounds-largest_of-end : goal.slice_bounds-largest_of-end
slice_bounds-largest_of-end c =
    let p : Passed (recipe_of c.args.edition c.args.headers.now c.args.steps.now) c.judge.new.known =
    passed c.in_ok-judge.ensures refl in
    omega (arith, p.fit, c.in_ok-judge.ensures.len)

pub largest_of-largest-requires : goal.largest_of-largest-requires
largest_of-largest-requires c =
    let p : Passed (recipe_of c.args.edition c.args.headers.now c.args.steps.now) c.judge.new.known =
    passed c.in_ok-judge.ensures refl in
    rw p.part p.steps

pub total_of-requires : goal.total_of-requires
total_of-requires c =
    let p : Passed (recipe_of c.args.edition c.args.headers.now c.args.steps.now) c.judge.new.known =
    passed c.in_ok-judge.ensures refl in
    record { fact_1 = p.inputs; fact_2 = omega (arith, p.fit) }

pub returns : goal.returns
returns c =
    let p : Passed (recipe_of c.args.edition c.args.headers.now c.args.steps.now) c.judge.new.known =
    passed c.in_ok-judge.ensures refl in
    answer-yes _ c.in_ok-judge.ensures.answer refl
    (c.total_of-pool.ensures ∙ ap total p.part)
    (c.largest_of-largest.ensures ∙ ap largest p.part) c.total_of.ensures
