-- REFERENCE 4.3. Document 01, 'Tail (added)', as document 02, W1, changes it: for one variable and k below the limit,
-- (total minus the sum, from +0.0 upwards, of stored coefficients 0 to k) divided by total, in that order.
use Rattle.std.specs.Prelude.{ℕ, ◌+◌, min, List, length, Float}
use Rattle.std.specs.Float.Ieee.{sub, div}
use Rattle.std.specs.Float.{binary64}
use Rattle.model.specs.Results.{Reading}
use Rattle.model.specs.Header.{len}
use Rattle.model.specs.Word.{header_of}
use Rattle.model.specs.Refusals.{read_by}
use Rattle.model.specs.Gates.{tail_gate}
use Rattle.model.specs.Readings.{sum_to}

-- n the stored length
unfoldable pub tail_of : List Float → ℕ → ℕ → Float → Float
tail_of a n k total = div binary64 (sub binary64 total (sum_to a (min n (k + 1)))) total

unfoldable pub tail_answer : ℕ → List Float → ℕ → Float → Reading
tail_answer w a k total = read_by (tail_gate w (length a) k total) (tail_of a (len (header_of w) 0) k total)
