-- REFERENCE 9.7 to 9.10. What `limits` prints behind the verdict: whether the figures may be wrong, what is said of the
-- total and of a wanted chance, and the figures, with parts of the total where W1 takes any.
use Rattle.std.specs.Prelude.{ℕ, List, ◌++◌, Float, length}
use Rattle.model.specs.declared.Header.{Header}
use Rattle.model.specs.Header.{stored}
use Rattle.model.specs.Word.{header_of}
use Rattle.model.specs.Gates.{good_total}
use Rattle.model.specs.Readings.{sum_to}
use Rattle.model_recipes.specs.Steps.{step_of}
use Rattle.model_texts.specs.Trace.{step_word}
use Rattle.model_texts.specs.Whole.{is_whole}
use Rattle.model_figures.specs.Figures.{figures_text}
use Rattle.model_forecast.specs.declared.Asked.{Asked}
use Rattle.model_forecast.specs.declared.Sums.{Sums}
use Rattle.model_forecast.specs.Totals.{last_place, answer_amount, answer_bar}
use Rattle.model_forecast.specs.Mixed.{first_mixed, mixed_text}
use Rattle.model_forecast.specs.Shares.{used_total, totals_text}
use Rattle.model_forecast.specs.Covered.{chance_text}

-- the figures, with parts of the total where W1 takes any; w the header word of the answer, xs its coefficients
unfoldable pub parts_text : ℕ → List Float → Float → List ℕ
parts_text w xs total = figures_text (header_of w) xs total (good_total total)

-- known what all places announce, hs the inputs' header words, cs their coefficients, ss the step words, fs the full
-- lengths of all places; w the header word of the answer, xs its coefficients
module _ (known : List Header) (hs : List ℕ) (cs : List Float) (ss fs : List ℕ) (w : ℕ) (xs : List Float) where
  unfoldable pub sums_of : Sums
  sums_of =
      record {
        whole = is_whole known ss (length hs) fs (last_place hs ss);
        vars = (header_of w).vars;
        bar = answer_bar hs ss;
        kind = (step_of (step_word ss (length hs) (answer_bar hs ss))).kind;
        amount = answer_amount hs cs ss;
        shown = sum_to xs (stored (header_of w));
      }

  unfoldable pub reckoned_text : Asked → List ℕ
  reckoned_text asked =
      let total = used_total asked.total sums_of in
      mixed_text (first_mixed known ss (length hs) fs (last_place hs ss))
      ++ (totals_text asked.total sums_of
      ++ (chance_text known ss (length hs) fs (last_place hs ss) (header_of w) xs total asked.chance ++ parts_text w xs total))
