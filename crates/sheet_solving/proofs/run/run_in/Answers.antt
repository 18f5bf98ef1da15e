use Rattle.std.proofs.lemmas.Result.{err_from_is_err_and}
use native.Mathlib.Omega.{arith}
use mathlib.Core.Path.{◌≡◌, refl, sym, ap, ◌∙◌}
use Rattle.model.specs.declared.Refusal.{Refusal}
use Rattle.model_texts.specs.Sheet.{sheet_coefficients}
use Rattle.sheet_solving.specs.Ran.{in-few, in_some, in-fit, in_words, in_admitted, floats-read, ran-stopped, ran_ruled, ran-done}
use borrow.Author.Rules.{rules}
use Rattle.sheet_solving.proofs.run.run_in.Goals as goal

pub fill_floats-requires : goal.fill_floats-requires
fill_floats-requires c =
    omega (arith, in-few c.args.pool.now c.args.words.now c.args.scratch.now c.requires)

pub run_admitted-ran-requires : goal.run_admitted-ran-requires
run_admitted-ran-requires c =
    let coefficients-read : c.fill_floats.new.to ≡ sheet_coefficients c.args.text.now =
    floats-read c.args.pool.now c.args.words.now c.args.scratch.now c.requires refl
    c.fill_floats.ensures in
    record {
      fact_1 = in_admitted c.args.pool.now c.args.words.now c.args.scratch.now c.requires
          (coefficients-read);
      fact_2 = in_words c.args.pool.now c.args.words.now c.args.scratch.now
          c.requires;
    }

-- the run stopped
pub returns-in_err-ran : goal.returns-in_err-ran
returns-in_err-ran c =
    let p = err_from_is_err_and c.from_residual.result c.from_residual.ensures.1 in
    let coefficients-read : c.fill_floats.new.to ≡ sheet_coefficients c.args.text.now =
    floats-read c.args.pool.now c.args.words.now c.args.scratch.now c.requires refl
    c.fill_floats.ensures in
    let stop = rw c.in_err-ran.was at c.run_admitted-ran.ensures.stop in
    let left = rw c.in_err-ran.was at c.run_admitted-ran.ensures.no_values in
    record {
      ends =
          rw (p.1, p.2)
          (ran-stopped c.args.pool.now c.args.words.now c.args.scratch.now c.requires
          coefficients-read stop.holds stop.some left);
      spent_known = search rules;
      spent_coefficients = search rules;
      spent_words = search rules;
      spent_scratch = search rules;
    }

pub overflow_sub-n : goal.overflow_sub-n
overflow_sub-n c =
    in_some c.args.pool.now c.args.words.now c.args.scratch.now c.requires

pub offset_bounds-words-n : goal.offset_bounds-words-n
offset_bounds-words-n c =
    search (rules, in-fit c.args.pool.now c.args.words.now c.args.scratch.now c.requires)

pub bounds-words-n : goal.bounds-words-n
bounds-words-n c =
    omega (
      arith,
      in_some c.args.pool.now c.args.words.now c.args.scratch.now c.requires,
      in_words c.args.pool.now c.args.words.now c.args.scratch.now c.requires,
      c.run_admitted-ran.auto.pool,
      c.run_admitted-ran.auto.words,
    )

pub done-requires : goal.done-requires
done-requires c =
    let coefficients-read : c.fill_floats.new.to ≡ sheet_coefficients c.args.text.now =
    floats-read c.args.pool.now c.args.words.now c.args.scratch.now c.requires refl
    c.fill_floats.ensures in
    let stop = rw c.in_ok-ran.was at c.run_admitted-ran.ensures.stop in
    let values = rw c.in_ok-ran.was at c.run_admitted-ran.ensures.values in
    let words = rw c.in_ok-ran.was at c.run_admitted-ran.ensures.words in
    ran_ruled c.args.pool.now c.args.words.now c.args.scratch.now c.requires
    coefficients-read (ap (λ (q : Refusal). q.number) (sym stop))
    values words c.run_admitted-ran.ensures.last c.run_admitted-ran.auto.pool

pub shape_of-coefficients : goal.shape_of-coefficients
shape_of-coefficients c =
    search (rules, c.fill_floats.auto.to)

pub returns : goal.returns
returns c =
    let coefficients-read : c.fill_floats.new.to ≡ sheet_coefficients c.args.text.now =
    floats-read c.args.pool.now c.args.words.now c.args.scratch.now c.requires refl
    c.fill_floats.ensures in
    let stop = rw c.in_ok-ran.was at c.run_admitted-ran.ensures.stop in
    let values = rw c.in_ok-ran.was at c.run_admitted-ran.ensures.values in
    let words = rw c.in_ok-ran.was at c.run_admitted-ran.ensures.words in
    record {
      ends = ran-done c.args.pool.now c.args.words.now c.args.scratch.now c.requires
          coefficients-read (ap (λ (q : Refusal). q.number) (sym stop))
          values words c.run_admitted-ran.ensures.last c.run_admitted-ran.auto.pool c.done.ensures;
      spent_known = search (rules, c.run_admitted-ran.auto.known);
      spent_coefficients = c.fill_floats.auto.to;
      spent_words = search (rules, c.run_admitted-ran.auto.words);
      spent_scratch = search (rules, c.run_admitted-ran.auto.scratch);
    }
