-- What a forecast is printed from: a recipe that was run, and its answer.
use Rattle.std.specs.Prelude.{ℕ, ◌+◌, ◌≤◌, List, ◌≡◌, length}
use Rattle.model.specs.Header.{stored}
use Rattle.model.specs.Word.{header_of}
use Rattle.report_inputs.specs.Held.{Held}

-- hs the inputs' header words; n steps, c coefficients of the inputs, the answer's header word w and x coefficients
pub record Forecast (hs : List ℕ) (n c w x : ℕ) : Type 0 where
  pub held : Held hs c
  pub some : 1 ≤ n
  pub fit : length hs + n ≤ 64
  pub full : x ≡ stored (header_of w)
