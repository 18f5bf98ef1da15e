-- What is said of the total, from what the code works out.
use Rattle.std.specs.Prelude.{ℕ, List, ◌≡◌, leb, Float, length}
use Rattle.model.specs.declared.Header.{Header}
use Rattle.model.specs.Header.{stored}
use Rattle.model.specs.Word.{header_of}
use Rattle.model.specs.Readings.{sum_to}
use Rattle.model_recipes.specs.declared.Step.{Step}
use Rattle.model_recipes.specs.Steps.{step_of}
use Rattle.model_texts.specs.Trace.{step_word}
use Rattle.model_texts.specs.Whole.{first_out, is_whole}
use Rattle.model_forecast.specs.declared.Sums.{Sums}
use Rattle.model_forecast.specs.Totals.{last_place, answer_amount, answer_bar}
use Rattle.model_forecast.specs.Reckoned.{sums_of}

abbrev pub sums : ℕ → Header → ℕ → Step → Float → Float → Sums
sums first h bar s amount shown = record { whole = leb 64 first; vars = h.vars; bar = bar; kind = s.kind; amount = amount; shown = shown }

module _ (known : List Header) (hs : List ℕ) (cs : List Float) (ss fs : List ℕ) (w : ℕ) (xs : List Float) where
  pub sums-is : {first bar word : ℕ} {s : Step} {h : Header} {amount shown : Float} → first ≡ first_out known ss (length hs) fs (last_place hs ss)
      → bar ≡ answer_bar hs ss → word ≡ step_word ss (length hs) bar → s ≡ step_of word → amount ≡ answer_amount hs cs ss
      → shown ≡ sum_to xs (length xs) → length xs ≡ stored (header_of w) → h ≡ header_of w
      → sums first h bar s amount shown ≡ sums_of known hs cs ss fs w xs
  unfolding sums_of is_whole
  sums-is ef eb ew es ea en el eh = simp (ef, es, ew, eb, ea, en, el, eh)
