use Rattle.std.proofs.lemmas.Result.{err_from_is_err_and}
use mathlib.Core.Path.{refl}
use Rattle.model.specs.declared.Refusal.{Refusal}
use native.Mathlib.Omega.{arith}
use mathlib.Core.Path.{◌≡◌, ap, ◌∙◌}
use lib.ListN.{length, length-take}
use Rattle.model_recipes.specs.Recipe.{recipe_of, announced_steps, total, largest}
use Rattle.recipes_check.specs.Answered.{Passed, passed}
use Rattle.recipes.specs.Admission.{admit-check, admit_2, admit_5, admit_6, admit-none, largest-most}
use Rattle.recipes.proofs.admit.admit.Goals as goal

pub returns-in_err-judge : goal.returns-in_err-judge
returns-in_err-judge c =
    let p = err_from_is_err_and c.from_residual.result c.from_residual.ensures.1 in
    let q = c.in_err-judge.ensures in
    rw (p.1, p.2) (record {
      some = q.some;
      holds = admit-check (recipe_of c.args.edition c.args.headers.now c.args.steps.now) c.args.coefficients c.args.pool
          c.args.words c.args.scratch q.holds q.some;
    })

pub total_of-requires : goal.total_of-requires
total_of-requires c =
    let pass : Passed (recipe_of c.args.edition c.args.headers.now c.args.steps.now) c.judge.new.known =
    passed c.in_ok-judge.ensures refl in
    record { fact_1 = (pass).inputs; fact_2 = omega (arith, (pass).fit) }

pub returns-then-coefficients-total_of : goal.returns-then-coefficients-total_of
returns-then-coefficients-total_of c =
    record {
      some = λ z. omega (arith, ap (λ (r : Refusal). r.number) c.by.ensures, z);
      holds = rw c.by.ensures (admit_2 (recipe_of c.args.edition c.args.headers.now c.args.steps.now) c.args.coefficients
          c.args.pool c.args.words c.args.scratch
          c.in_ok-judge.ensures
          refl c.total_of.ensures c.if-coefficients-total_of.true);
    }

pub slice_bounds-total_of-end : goal.slice_bounds-total_of-end
slice_bounds-total_of-end c =
    let pass : Passed (recipe_of c.args.edition c.args.headers.now c.args.steps.now) c.judge.new.known =
    passed c.in_ok-judge.ensures refl in
    let noted-len : length c.judge.new.known ≡ length c.args.known.now =
    c.in_ok-judge.ensures.len in
    omega (arith, (pass).fit, noted-len, c.requires)

pub total_of-total-requires : goal.total_of-total-requires
total_of-total-requires c =
    let pass : Passed (recipe_of c.args.edition c.args.headers.now c.args.steps.now) c.judge.new.known =
    passed c.in_ok-judge.ensures refl in
    record { fact_1 = rw (pass).part (pass).steps; fact_2 = simp length-take (omega (arith, (pass).fit)) }

pub returns-then-not-total-pool : goal.returns-then-not-total-pool
returns-then-not-total-pool c =
    let pass : Passed (recipe_of c.args.edition c.args.headers.now c.args.steps.now) c.judge.new.known =
    passed c.in_ok-judge.ensures refl in
    record {
      some = λ z. omega (arith, ap (λ (r : Refusal). r.number) c.by-then-not-total-pool.ensures, z);
      holds = rw c.by-then-not-total-pool.ensures (admit_5 (recipe_of c.args.edition c.args.headers.now c.args.steps.now) c.args.coefficients
          c.args.pool c.args.words c.args.scratch c.in_ok-judge.ensures refl
          c.total_of.ensures
          c.if-coefficients-total_of.false
          (c.total_of-total.ensures ∙ ap total (pass).part) c.if-not-total-pool.true);
    }

pub slice_bounds-largest_of-end : goal.slice_bounds-largest_of-end
slice_bounds-largest_of-end c =
    let pass : Passed (recipe_of c.args.edition c.args.headers.now c.args.steps.now) c.judge.new.known =
    passed c.in_ok-judge.ensures refl in
    let noted-len : length c.judge.new.known ≡ length c.args.known.now =
    c.in_ok-judge.ensures.len in
    omega (arith, (pass).fit, noted-len, c.requires)

pub largest_of-requires : goal.largest_of-requires
largest_of-requires c =
    let pass : Passed (recipe_of c.args.edition c.args.headers.now c.args.steps.now) c.judge.new.known =
    passed c.in_ok-judge.ensures refl in
    rw (pass).part (pass).steps

pub overflow_mul-largest_of : goal.overflow_mul-largest_of
overflow_mul-largest_of c =
    let pass : Passed (recipe_of c.args.edition c.args.headers.now c.args.steps.now) c.judge.new.known =
    passed c.in_ok-judge.ensures refl in
    omega (
      arith,
      c.largest_of.ensures ∙ ap largest (pass).part,
      largest-most (announced_steps (recipe_of c.args.edition c.args.headers.now c.args.steps.now)) (pass).steps,
    )

pub returns-then-scratch-largest_of : goal.returns-then-scratch-largest_of
returns-then-scratch-largest_of c =
    let pass : Passed (recipe_of c.args.edition c.args.headers.now c.args.steps.now) c.judge.new.known =
    passed c.in_ok-judge.ensures refl in
    record {
      some = λ z. omega (arith, ap (λ (r : Refusal). r.number) c.by-then-scratch-largest_of.ensures, z);
      holds = rw c.by-then-scratch-largest_of.ensures (admit_6 (recipe_of c.args.edition c.args.headers.now c.args.steps.now) c.args.coefficients
          c.args.pool c.args.words c.args.scratch c.in_ok-judge.ensures refl
          c.total_of.ensures c.if-coefficients-total_of.false
          (c.total_of-total.ensures ∙ ap total (pass).part)
          c.if-not-total-pool.false
          (c.largest_of.ensures ∙ ap largest (pass).part) c.if-scratch-largest_of.true);
    }

pub returns : goal.returns
returns c =
    let pass : Passed (recipe_of c.args.edition c.args.headers.now c.args.steps.now) c.judge.new.known =
    passed c.in_ok-judge.ensures refl in
    (admit-none (recipe_of c.args.edition c.args.headers.now c.args.steps.now) c.args.coefficients
    c.args.pool c.args.words c.args.scratch c.in_ok-judge.ensures refl
    c.total_of.ensures c.if-coefficients-total_of.false
    (c.total_of-total.ensures ∙ ap total (pass).part)
    c.if-not-total-pool.false
    (c.largest_of.ensures ∙ ap largest (pass).part) c.if-scratch-largest_of.false)
