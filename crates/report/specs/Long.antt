-- Whatever the sheet, what `limits` prints keeps to 80 columns and fits the 262,144 bytes that its program has.
use Rattle.std.specs.Prelude.{ℕ, ◌+◌, ◌-◌, ◌*◌, ◌≤◌, ◌<◌, true, not, eqb, List, ◌++◌, ◌≡◌, refl, Float, take, drop}
use Rattle.std.proofs.Math.Path.{sym, ap}
use Rattle.std.proofs.Common.{◌∙◌, arith, length-append, get_or-drop, take_all, eqb-true}
use Rattle.std.specs.Float.Ieee.{of_bits, binary64}
use Rattle.std.proofs.Math.ListN.{length, get_or}
use Rattle.std.proofs.lemmas.Bool.{eqb-false}
use Rattle.lists.specs.Bytes.{bytes}
use Rattle.lists.specs.Grow.{over, take-over}
use Rattle.lists.specs.Table.{length-table}
use Rattle.lists.specs.Test.{decide}
use Rattle.model.specs.declared.Refusal.{Refusal}
use Rattle.model.specs.Header.{stored}
use Rattle.model.specs.Word.{header_of, word_of}
use Rattle.model.specs.Refusals.{is_none}
use Rattle.model_recipes.specs.Check.{check_refusal}
use Rattle.model_recipes.specs.Recipe.{Recipe, input_heads, head_at, announced_places, announced_steps, total, largest}
use Rattle.model_recipes.specs.Run.{no_value, value_at, values, step_values}
use Rattle.model_texts.specs.Full.{fulls}
use Rattle.model_texts.specs.Report.{place_text, cuts_text, end_text, verdict_text}
use Rattle.model_texts.specs.Sheet.{input_count, sheet_edition, sheet_coefficients, sheet_recipe, word_on}
use Rattle.model_texts.specs.Sheet.{coefficient_count, own_refusal, recipe_refusal, read_refusal, sheet_refusal, last_value}
use Rattle.model_texts.specs.Trace.{step_word}
use Rattle.model_forecast.specs.declared.Asked.{Asked}
use Rattle.model_forecast.specs.Reckoned.{reckoned_text}
use Rattle.model_forecast.specs.Told.{limit_lines, edition_text, forecast_text, told_text}
use Rattle.shape_words.specs.Words.{unpack-pack}
use Rattle.shape.specs.Under.{count_under}
use Rattle.shape.specs.Keeps.{Keeps}
use Rattle.recipes_check.specs.Asks.{or-none, or-next}
use Rattle.recipes_check.specs.Judged.{Accepts, accepts, places-known}
use Rattle.recipes_laws.specs.Ahead.{announced-at, step-largest}
use Rattle.recipes_laws.specs.Values.{follows-all}
use Rattle.sheet_solving.specs.Opened.{steps-many}
use Rattle.sheet_solving.specs.Running.{passed, steps-largest}
use Rattle.report_lines.specs.Puts.{Printed}
use Rattle.report_lines.specs.Columns.{in_columns, column_after, columns_append}
use Rattle.report_lines.specs.Columns.{Lines, written, lines-up, lines_then, lines_if, lines-joined}
use Rattle.report_lines.specs.Long.{Short, place-lines, cuts-lines, end-lines, verdict-lines}
use Rattle.report_inputs.specs.Long.{inputs-lines}
use Rattle.report_refused.specs.Long.{fault-length, fault-columns}
use Rattle.report.specs.Before.{line_one, line_two}
use Rattle.report_totals.specs.Long.{reckoned-lines}
use Rattle.report.specs.Tells.{told-refused, told-done}
use Rattle.report.specs.Traces.{check-ordered, shift_short, check-none}

-- n bytes at most, in 80 columns
record Kept (n : ℕ) (t : List ℕ) : Type 0 where
  most : length t ≤ n
  keeps : in_columns 0 t ≡ true

kept-behind : {a b : ℕ} {s t : List ℕ} → Lines a s → Kept b t → Kept (a + b) (s ++ t)
kept-behind {s = s} {t = t} p q =
    record {
      most = omega (arith, length-append s t, p.most, q.most);
      keeps = columns_append 0 s t p.keeps (rw p.ends q.keeps);
    }

-- ---- all that is said of limits

heads : (Lines 80 line_one) × (Lines 80 line_two)
unfolding bytes in_columns column_after
heads = (written 80 line_one refl refl, written 80 line_two refl refl)

module _ (it : Recipe) (z : (check_refusal it).number ≡ 0) where
  short : (p : ℕ) → length it.headers ≤ p → p < length it.headers + length it.steps → Short (step_word it.steps (length it.headers) p)
  short p a l e =
      let n = shift_short it z (p - length it.headers) (omega arith) (record { from = omega (arith, e); to = omega (arith, e) }) in omega arith

  limits-lines : (fs : List ℕ) → Lines 57000 (limit_lines (announced_places it) it.steps (length it.headers) fs (length it.headers + length it.steps))
  unfolding limit_lines
  limits-lines fs =
      let a = accepts it z in
      let n = length it.headers + length it.steps in
      let f : n ≤ 64 = a.sizes.fit in
      let s : 1 ≤ n = omega (arith, a.sizes.some) in
      let known = announced_places it in
      let g = places-known it a.inputs in
      lines-up
      (lines_then heads.0
      (lines_then heads.1
      (lines_then (lines-joined (place_text known it.steps (length it.headers)) 79 n
      (λ p l. place-lines known it.steps (length it.headers) g p (omega arith) (λ i. short p i l)))
      (lines_then (lines-joined (cuts_text known it.steps (length it.headers) fs) 796 n
      (λ p l. cuts-lines known it.steps (length it.headers) g fs p (omega arith)))
      (lines-joined (end_text known it.steps (length it.headers) (n - 1)) 124 4
      (λ v k. end-lines known it.steps (length it.headers) g (n - 1) v (omega arith) k (check-ordered it z) (omega arith)))))))
      (omega arith)

edition-lines : (e : ℕ) → Lines 80 (edition_text e)
unfolding edition_text bytes in_columns column_after
edition-lines e =
    lines_if (not (eqb e 0)) (written 80 (bytes "Edition 1: a power of 0 is one with its operand's limits.\n") refl refl)

-- ---- a sheet that is not refused

module _ (t : List ℕ) (z : (sheet_refusal t).number ≡ 0) where
  abbrev it : Recipe
  it = sheet_recipe t

  abbrev cs : List Float
  cs = sheet_coefficients t

  accepts-it : Accepts it
  accepts-it = accepts it (check-none t z)

  small-steps : largest (announced_steps it) ≤ 256
  unfolding sheet_refusal recipe_refusal
  small-steps =
      let a = or-none (check_refusal it) _ (or-none (read_refusal t) _ z).1 in
      let b = or-none (own_refusal it) _ a.1 in
      steps-largest (passed it (ap (λ (x : Refusal). x.number) (or-next (check_refusal it) (own_refusal it) a.0) ∙ b.0))

  full : total (input_heads it.headers) ≤ length cs
  unfolding sheet_coefficients coefficient_count sheet_recipe
  full = omega (arith, length-table (λ j. of_bits binary64 (word_on t (1 + input_count t + j))) (coefficient_count t))

  abbrev last : ℕ
  last = length it.steps - 1

  last_in : last < length it.steps
  last_in = omega (arith, accepts-it.sizes.some)

  -- the last value keeps what its step announced
  keep : Keeps (head_at (announced_places it) (length it.headers + last)) (last_value t)
  unfolding last_value step_values sheet_recipe
  keep =
      let e : value_at (values it cs) (length it.headers + last) ≡ last_value t =
      sym (get_or-drop (length it.headers) (values it cs) last no_value)
      ∙ ap (λ (n : ℕ). get_or (drop (length it.headers) (values it cs)) (n - 1) no_value) (steps-many t) in
      rw e at ((follows-all it cs {m = 8 * largest (announced_steps it)} (check-none t z) full (omega arith)).keeps (length it.headers + last))

  last-few : stored (header_of (word_of (last_value t).head)) ≤ 256
  last-few =
      let l : stored (head_at (announced_places it) (length it.headers + last)) ≤ largest (announced_steps it) =
      rw (announced-at it last last_in) (step-largest it last last_in) in
      rw (unpack-pack (last_value t).head keep.regular) (omega (arith, count_under keep.under, l, small-steps))

  abbrev fs : List ℕ
  fs = fulls (announced_places it) it.steps (length it.headers) (length it.headers + length it.steps)

  done-kept : (asked : Asked) → Kept 162000 (told_text t asked)
  unfolding forecast_text sheet_recipe
  done-kept asked =
      let w = word_of (last_value t).head in
      let f = reckoned-lines (announced_places it) it.headers cs it.steps fs w (last_value t).coeffs asked last-few in
      let v = verdict-lines (announced_places it) it.steps (length it.headers) (places-known it accepts-it.inputs) fs
      (length it.headers + length it.steps - 1) in
      let k : Kept 95680 (verdict_text (announced_places it) it.steps (length it.headers) fs (length it.headers + length it.steps - 1)
      ++ reckoned_text (announced_places it) it.headers cs it.steps fs w (last_value t).coeffs asked) =
      kept-behind v (record { most = f.most; keeps = f.keeps }) in
      let m = kept-behind (limits-lines it (check-none t z) fs)
      (kept-behind (inputs-lines it.headers cs accepts-it.sizes.few) k) in
      let q = kept-behind (edition-lines (sheet_edition t)) m in
      rw (told-done t asked z) (record { most = omega (arith, q.most); keeps = q.keeps })

-- ---- the laws

told-kept : (t : List ℕ) (asked : Asked) → Kept 162000 (told_text t asked)
told-kept t asked =
    decide (is_none (sheet_refusal t))
    (λ a. done-kept t (eqb-true _ _ a) asked)
    (λ a.
    rw (told-refused t asked refl (eqb-false (sheet_refusal t).number 0 a)) (record { most = omega (arith, fault-length t); keeps = fault-columns t }))

module _ (t : List ℕ) (asked : Asked) where
  pub told-columns : in_columns 0 (told_text t asked) ≡ true
  told-columns = (told-kept t asked).keeps

  pub told-fits : length (told_text t asked) ≤ 262144
  told-fits = omega (arith, (told-kept t asked).most)

  -- so that all of it is printed
  pub told-whole : {old new : List ℕ} {n : ℕ} → Printed (told_text t asked) old new n → 262144 ≤ length old → take n new ≡ told_text t asked
  told-whole {old} {new} {n} p l =
      let told : List ℕ = told_text t asked in
      let e : n ≡ length told = omega (arith, p.behind, told-fits) in
      let f : take (length old) told ≡ told = take_all (length old) told (omega (arith, told-fits)) in
      ap (take n) (p.is ∙ ap (λ (x : List ℕ). over x old) f) ∙ take-over told old n (sym e)
