use native.Mathlib.Omega.{arith}
use mathlib.Core.Path.{refl}
use Rattle.std.proofs.lemmas.Result.{err_from_is_err_and}
use Rattle.model_recipes.specs.Recipe.{recipe_of}
use Rattle.recipes.specs.Ran.{no_answer, no-pool, no_words, no-scratch, admitted, enough-words, ended}
use Rattle.recipes.proofs.run.Goals as goal

pub returns-in_err-admit : goal.returns-in_err-admit
returns-in_err-admit c =
    let p = err_from_is_err_and c.from_residual.result c.from_residual.ensures.1 in
    let q = c.in_err-admit.ensures in
    let it = recipe_of c.args.edition c.args.headers.now c.args.steps.now in
    let cs = c.args.coefficients.now in
    let pool = c.args.pool.now in
    let words = c.args.words.now in
    let scratch = c.args.scratch.now in
    rw (p.1, p.2) (
      no_answer it cs pool words scratch q.holds q.some,
      (
        no-pool it cs pool words scratch q.holds q.some,
        (no_words it cs pool words scratch q.holds q.some, no-scratch it cs pool words scratch q.holds q.some),
      ),
    )

pub run_admitted-ended-requires : goal.run_admitted-ended-requires
run_admitted-ended-requires c =
    let it = recipe_of c.args.edition c.args.headers.now c.args.steps.now in
    let a = c.in_ok-admit.ensures in
    record {
      fact_1 = admitted it c.args.coefficients.now c.args.pool.now c.args.words.now c.args.scratch.now a refl (omega (arith, a.len));
      fact_2 = enough-words it c.args.coefficients.now c.args.pool.now c.args.words.now c.args.scratch.now a refl;
    }

pub returns : goal.returns
returns c =
    let e = c.run_admitted-ended.ensures in
    ended (recipe_of c.args.edition c.args.headers.now c.args.steps.now) c.args.coefficients.now c.args.pool.now
    c.args.words.now c.args.scratch.now c.in_ok-admit.ensures refl c.run_admitted-ended.result.stop
    e.stop e.values e.words e.no_values e.no_words e.cleared
