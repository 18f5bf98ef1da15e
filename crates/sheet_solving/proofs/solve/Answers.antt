use Rattle.std.proofs.lemmas.Result.{IfOk-weaker, err_from_is_err_and}
use native.Mathlib.Omega.{arith}
use mathlib.Core.Path.{◌≡◌, refl, sym, ap, ◌∙◌}
use lib.Seq.{length-take-le}
use Rattle.model.specs.declared.Refusal.{Refusal}
use Rattle.model_texts.specs.Sheet.{read_refusal}
use Rattle.sheet_solving.specs.Opened.{opened}
use Rattle.sheet_solving.specs.Ended.{read-refused, read_left}
use Rattle.sheet_solving.specs.Solves.{solution-front}
use borrow.Author.Rules.{rules}
use Rattle.sheet_solving.proofs.solve.Goals as goal

pub returns-in_err-read : goal.returns-in_err-read
returns-in_err-read c =
    let p = err_from_is_err_and c.from_residual.result c.from_residual.ensures.1 in
    let q = c.in_err-read.ensures in
    rw (p.1, p.2)
    (record {
      says = record { some = q.some; holds = read-refused _ q.holds.answer q.some };
      headers_len = q.holds.len;
      steps_len = refl;
      known_len = refl;
      pool_len = refl;
      refused = read_left _ _ q.holds.answer q.some;
      done = tt;
    })

pub slice_bounds-run_read-end : goal.slice_bounds-run_read-end
slice_bounds-run_read-end c =
    let none : (read_refusal c.args.text.now).number ≡ 0 =
    ap (λ (r : Refusal). r.number) (sym c.in_ok-read.ensures.answer) ∙ refl in
    omega (
      arith,
      c.in_ok-read.ensures.len,
      c.input_count-inputs.ensures,
      (opened c.args.text.now (none)).sizes.few,
      c.requires.headers,
    )

pub slice_bounds-run_read-end-2 : goal.slice_bounds-run_read-end-2
slice_bounds-run_read-end-2 c = sym (length-take-le _ _ (let none : (read_refusal c.args.text.now).number ≡ 0 =
    ap (λ (r : Refusal). r.number) (sym c.in_ok-read.ensures.answer) ∙ refl in
    omega (
      arith,
      c.in_ok-read.ensures.len,
      c.input_count-inputs.ensures,
      (opened c.args.text.now (none)).sizes.few,
      c.requires.headers,
    )))

pub run_read-requires : goal.run_read-requires
run_read-requires c =
    let none : (read_refusal c.args.text.now).number ≡ 0 =
    ap (λ (r : Refusal). r.number) (sym c.in_ok-read.ensures.answer) ∙ refl in
    record {
      fact_1 = record {
        read = none;
        headers = rw c.input_count-inputs.ensures (c.in_ok-read.ensures.headers refl);
        edition = c.edition_of-edition.ensures;
      };
      fact_2 = record { steps = c.requires.steps; known = c.requires.known; pool = c.requires.pool };
    }

pub returns : goal.returns
returns c =
    record {
      says = c.run_read.ensures.says;
      headers_len = c.in_ok-read.ensures.len;
      steps_len = search rules;
      known_len = search rules;
      pool_len = search rules;
      refused = c.run_read.ensures.refused;
      done =
          IfOk-weaker c.run_read.result _ _ (λ s d. solution-front _ d (c.in_ok-read.ensures.headers refl)) c.run_read.ensures.done;
    }
