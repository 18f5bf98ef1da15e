-- What is printed, by how a sheet ends; and that every limit is printed before any figure.
use Rattle.std.specs.Prelude.{ℕ, ◌+◌, ◌-◌, ◌≤◌, ◌<◌, ◌≡◌, refl, Float, take, drop}
use mathlib.Core.List.{List, ◌++◌, map}
use Rattle.std.proofs.Common.{sym, ◌∙◌}
use Rattle.std.proofs.Math.Path.{ap}
use native.Mathlib.Omega.{arith}
use Rattle.std.specs.Float.Ieee.{of_bits}
use Rattle.std.specs.Float.{binary64}
use Rattle.std.proofs.Math.ListN.{length}
use borrow.Author.Tests.{eq-eqb, ne_eqb}
use Rattle.lists.specs.Table.{table}
use Rattle.model.specs.declared.Refusal.{Refusal}
use Rattle.model.specs.Word.{header_of, word_of}
use Rattle.model_texts.specs.Full.{fulls}
use Rattle.model_texts.specs.Report.{place_text, cuts_text, end_text, verdict_text}
use Rattle.model_recipes.specs.Recipe.{input_heads, total}
use Rattle.model_recipes.specs.Check.{check_refusal}
use Rattle.model_texts.specs.Sheet.{word_on, sheet_edition, sheet_headers, coefficient_count, sheet_coefficients, sheet_steps, sheet_recipe}
use Rattle.model_texts.specs.Sheet.{read_refusal, own_refusal, recipe_refusal, sheet_refusal, last_value}
use Rattle.model_faults.specs.Fault.{fault_report}
use Rattle.model_figures.specs.Inputs.{inputs_text}
use Rattle.model_forecast.specs.declared.Asked.{Asked}
use Rattle.model_forecast.specs.Reckoned.{reckoned_text}
use Rattle.model_forecast.specs.Told.{limit_lines, edition_text, place_count, forecast_text, sheet_known, told_text}
use Rattle.sheet_solving.specs.declared.Solved.{Solved}
use Rattle.sheet_solving.specs.Solves.{Solution}
use Rattle.sheet_solving.specs.Opened.{headers-many, opened, opened-good}
use Rattle.sheet_reading.specs.Headers.{good-known}
use Rattle.sheet_solving.specs.Running.{Passed, passed}
use Rattle.recipes_kinds.specs.Known.{Known}
use Rattle.recipes_check.specs.Asks.{or-none, or-next}
use Rattle.report_lines.specs.Before.{Within}
use Rattle.report_inputs.specs.Held.{Held}
use Rattle.report_totals.specs.Forecast.{Forecast}
use Rattle.report.specs.Before.{place-told, cuts-told, end-told}

module _ (t : List ℕ) where
  pub told-refused : (asked : Asked) {q : Refusal} → sheet_refusal t ≡ q → (q.number ≡ 0 → ⊥) → told_text t asked ≡ fault_report t
  unfolding told_text
  told-refused asked {q} e z = rw (e, ne_eqb q.number 0 z)

  pub told-done : (asked : Asked) → (sheet_refusal t).number ≡ 0
      → told_text t asked
      ≡ edition_text (sheet_edition t)
      ++ forecast_text (sheet_known t) (sheet_headers t) (sheet_coefficients t) (sheet_steps t) (word_of (last_value t).head) (last_value t).coeffs asked
  unfolding told_text
  told-done asked e = rw (eq-eqb (sheet_refusal t).number 0 e)

  abbrev places : ℕ
  places = place_count (sheet_known t) (sheet_headers t) (sheet_coefficients t) (sheet_steps t)

  abbrev inputs : ℕ
  inputs = length (sheet_headers t)

  abbrev full : List ℕ
  full = fulls (sheet_known t) (sheet_steps t) inputs places

  -- all that is said of limits, and the verdict: from headers and steps alone
  unfoldable pub limits_first : List ℕ
  limits_first = limit_lines (sheet_known t) (sheet_steps t) inputs full places

  unfoldable pub verdict_then : List ℕ
  verdict_then = verdict_text (sheet_known t) (sheet_steps t) inputs full (places - 1)

  -- what stands behind the verdict: whether the figures may be wrong, the total, and the figures
  unfoldable pub reckoned_then : Asked → List ℕ
  reckoned_then asked =
      reckoned_text (sheet_known t) (sheet_headers t) (sheet_coefficients t) (sheet_steps t) full (word_of (last_value t).head) (last_value t).coeffs asked

  -- behind the edition the line of the place p, what limits cut off it, and what decides the limit of the variable v of
  -- the answer stand
  -- before what was put in, the verdict stands behind that, and then come the total and the figures
  pub record Told (asked : Asked) (p v : ℕ) : Type 0 where
    pub place : Within (place_text (sheet_known t) (sheet_steps t) inputs p) limits_first
    pub cuts : Within (cuts_text (sheet_known t) (sheet_steps t) inputs full p) limits_first
    pub ends : Within (end_text (sheet_known t) (sheet_steps t) inputs (places - 1) v) limits_first
    pub is : told_text t asked ≡ edition_text (sheet_edition t)
        ++ (limits_first ++ (inputs_text (sheet_headers t) (sheet_coefficients t) ++ (verdict_then ++ reckoned_then asked)))

  pub limits_first_lem : (asked : Asked) → (sheet_refusal t).number ≡ 0 → (p v : ℕ) → p < places → v < 4 → Told asked p v
  unfolding limits_first verdict_then reckoned_then forecast_text
  limits_first_lem asked e p v l k =
      record {
        place = place-told (sheet_known t) (sheet_steps t) inputs full places p l;
        cuts = cuts-told (sheet_known t) (sheet_steps t) inputs full places p l;
        ends = end-told (sheet_known t) (sheet_steps t) inputs full places v k;
        is = told-done asked e;
      }

-- what is said of limits, and the verdict, know no coefficient: sheets with equal editions, headers and steps have the
-- same
pub words_decide : (t u : List ℕ) → sheet_edition t ≡ sheet_edition u → sheet_headers t ≡ sheet_headers u → sheet_steps t ≡ sheet_steps u
    → (limits_first t ≡ limits_first u) × (verdict_then t ≡ verdict_then u)
unfolding limits_first verdict_then sheet_recipe
words_decide t u e h s = (rw (e, h, s) refl, rw (e, h, s) refl)

-- the n coefficients on a sheet behind m headers
abbrev pub coefficients_of : List ℕ → ℕ → ℕ → List Float
coefficients_of t m n = table n (λ j. of_bits binary64 (word_on t (1 + m + j)))

module _ {t headers steps known : List ℕ} {pool : List Float} {s : Solved} (d : Solution t headers steps known pool s) (z : (sheet_refusal t).number ≡ 0) where
  solved-passed : Passed (sheet_recipe t)
  unfolding sheet_refusal recipe_refusal
  solved-passed =
      let a = or-none (check_refusal (sheet_recipe t)) _ (or-none (read_refusal t) _ z).1 in
      let b = or-none (own_refusal (sheet_recipe t)) _ a.1 in
      passed (sheet_recipe t)
      (ap (λ (x : Refusal). x.number) (or-next (check_refusal (sheet_recipe t)) (own_refusal (sheet_recipe t)) a.0) ∙ b.0)

  -- the inputs keep the rules
  pub solved-known : Known (input_heads (take s.inputs headers))
  unfolding sheet_refusal
  solved-known = rw d.header_words (good-known (opened-good (opened t (or-none (read_refusal t) _ z).0)))

  pub solved-few : length (take s.inputs headers) ≤ 64
  unfolding sheet_recipe
  solved-few = omega (arith, ap length d.header_words, solved-passed.accepts.sizes.few)

  -- n coefficients, as many as the inputs have
  module _ {n : ℕ} (e : n ≡ total (input_heads (take s.inputs headers))) where
    pub given-few : n ≤ 2048
    unfolding sheet_recipe
    given-few = omega (arith, e, ap (λ (l : List ℕ). total (input_heads l)) d.header_words, solved-passed.inputs)

    pub solved-held : Held (take s.inputs headers) n
    unfolding sheet_recipe
    solved-held =
        record {
          known = solved-known;
          few = omega (arith, ap length d.header_words, solved-passed.accepts.sizes.few);
          full = omega (arith, e);
          small = given-few;
        }

    -- what a forecast is printed from
    pub solved_forecast : Forecast (take s.inputs headers) (length (take s.steps steps)) n s.header
        (length (take (s.from + s.count - s.from) (drop s.from pool)))
    unfolding sheet_recipe
    solved_forecast =
        let f : s.from + s.count - s.from ≡ s.count = omega arith in
        record {
          held = solved-held;
          some = omega (arith, ap length d.step_words, solved-passed.accepts.sizes.some);
          fit = omega (arith, ap length d.step_words, ap length d.header_words, solved-passed.accepts.sizes.fit);
          full = rw f (ap length d.last.coefficients ∙ (sym d.last.count ∙ d.last.full));
        }

    coefficients_are : coefficients_of t (length (take s.inputs headers)) n ≡ sheet_coefficients t
    unfolding sheet_coefficients coefficient_count
    coefficients_are = rw (e, d.header_words, headers-many t)

    -- the forecast of the sheet, from what was solved
    pub told_solved : (asked : Asked) → told_text t asked
        ≡ edition_text (sheet_edition t) ++ forecast_text (map header_of (take (s.inputs + s.steps) known)) (take s.inputs headers)
        (coefficients_of t (length (take s.inputs headers)) n) (take s.steps steps) s.header
        (take (s.from + s.count - s.from) (drop s.from pool)) asked
    told_solved asked =
        let f : s.from + s.count - s.from ≡ s.count = omega arith in
        told-done t asked z ∙ rw (coefficients_are, f, d.places, d.step_words, d.header_words, d.last.header, d.last.coefficients) refl
