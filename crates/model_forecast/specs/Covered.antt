-- REFERENCE 9.10. How many tubes cover a wanted chance (document 02, W6): the least k whose running sum is at least the
-- chance times the total, one rounded product; or that no place shown reaches it, and by which place the table was cut.
-- For an answer of one variable only.
use Rattle.std.specs.Prelude.{Some, None, ℕ, cond, List, [], ◌++◌, ltb, eqb, Float}
use Rattle.std.specs.Float.Ieee.{mul}
use Rattle.std.specs.Float.{binary64}
use Rattle.lists.specs.Bytes.{bytes}
use Rattle.model.specs.declared.Header.{Header}
use Rattle.model.specs.Header.{len}
use Rattle.model.specs.Gates.{good_total}
use Rattle.model.specs.Least.{least_of}
use Rattle.model_texts.specs.Printed.{decimal}
use Rattle.model_texts.specs.Trace.{decider}
use Rattle.model_texts.specs.Whole.{passes, first_out, is_whole}
use Rattle.model_texts.specs.Report.{tell, place_kind_text}
use Rattle.model_decimals.specs.Text.{float_text}
use Rattle.model_forecast.specs.Results.{Given}

-- k tubes cover the chance q
unfoldable pub covered_text : ℕ → Float → List ℕ
covered_text k q =
    decimal k
    ++ (cond (eqb k 1) (bytes " tube covers a chance of ") (bytes " tubes cover a chance of ") ++ (float_text q ++ bytes ".\n"))

-- the first variable in which the place o leaves terms out
unfoldable pub first_passing : List Header → List ℕ → ℕ → ℕ
first_passing known fs o = cond (passes known fs o 0) 0 (cond (passes known fs o 1) 1 (cond (passes known fs o 2) 2 3))

module _ (known : List Header) (ss : List ℕ) (inputs : ℕ) (fs : List ℕ) where
  -- the place o is the first that leaves terms out, and another may have decided its limit
  unfoldable pub cut_by_text : ℕ → List ℕ
  cut_by_text o =
      tell "The table was cut at place " o
      ++ (bytes ", by the limit of "
      ++ (place_kind_text inputs (decider known (first_passing known fs o) ss inputs o) ++ bytes ";\na larger limit belongs there.\n"))

  -- why the answer, at the place p, does not reach it
  unfoldable pub short_text : ℕ → List ℕ
  short_text p =
      cond (is_whole known ss inputs fs p) (bytes "No limit left anything out: the answer itself does not reach it.\n")
      (cut_by_text (first_out known ss inputs fs p))

  unfoldable pub uncovered_text : ℕ → Float → List ℕ
  uncovered_text p q = bytes "No number of tubes shown covers a chance of " ++ (float_text q ++ (bytes ".\n" ++ short_text p))

  -- h the header of the answer, xs its coefficients
  module _ (p : ℕ) (h : Header) (xs : List Float) where
    unfoldable pub cover_text : Float → Float → List ℕ
    cover_text total q =
        let k = least_of xs (len h 0) (mul binary64 q total) in
        cond (ltb k (len h 0)) (covered_text k q) (uncovered_text p q)

    unfoldable pub wanted_text : Float → Float → List ℕ
    wanted_text total q =
        cond (eqb h.vars 1)
        (cond (good_total total) (cover_text total q) (bytes "With no total above zero, no number of tubes covers a chance.\n"))
        (bytes "How many tubes cover a chance is told for an answer of one variable only.\n")

    unfoldable pub chance_text : Float → Given → List ℕ
    chance_text total None = []
    chance_text total (Some q) = wanted_text total q
