-- REFERENCE 9.8. What is said of the total, before the figures: how much there is in all, how much of it is shown and
-- how much is not; or why the total is not known; or that document 02, W1, takes no parts of it.
use Rattle.std.specs.Prelude.{Some, None, ℕ, Bool, true, false, cond, List, ◌++◌, leb, eqb, Float}
use Rattle.std.specs.Float.Ieee.{sub}
use Rattle.std.specs.Float.{binary64}
use Rattle.lists.specs.Bytes.{bytes}
use Rattle.model.specs.Gates.{good_total}
use Rattle.model.specs.Readings.{one_f}
use Rattle.model_texts.specs.Report.{tell, when, kind_text}
use Rattle.model_decimals.specs.Text.{float_text}
use Rattle.model_forecast.specs.Results.{Given}
use Rattle.model_forecast.specs.declared.Sums.{Sums}

-- the total that parts are taken of: the one that is given, else the one that follows from the inputs, else 1
unfoldable pub used_total : Given → Sums → Float
used_total (Some t) s = t
used_total None s = cond (leb 64 s.bar) s.amount one_f

-- where a total comes from
unfoldable pub origin_text : Bool → List ℕ
origin_text given = cond given (bytes "as given") (bytes "taking each input as whole")

-- what is not shown: past the limits, if the total is the answer's own
unfoldable pub lost_text : Bool → Bool → Float → List ℕ
lost_text given whole lost =
    cond given (float_text lost ++ bytes " are not.\n")
    (cond whole (bytes "nothing lies past the limits.\n") (float_text lost ++ bytes " lie past the limits.\n"))

unfoldable pub shares_text : Bool → Bool → Float → Float → List ℕ
shares_text given whole total shown =
    bytes "Of "
    ++ (float_text total
    ++ (bytes " in all, "
    ++ (origin_text given
    ++ (bytes ",\n  "
    ++ (float_text shown ++ (bytes " are shown here;\n  " ++ lost_text given whole (sub binary64 total shown)))))))

-- a total that W1 refuses
unfoldable pub no_parts_text : Bool → Float → List ℕ
no_parts_text given total =
    bytes "The total, "
    ++ (origin_text given
    ++ (bytes ", is " ++ (float_text total ++ bytes ":\n  not a finite number above zero, so that no part of it is told.\n")))

unfoldable pub total_text : Bool → Bool → Float → Float → List ℕ
total_text given whole total shown = cond (good_total total) (shares_text given whole total shown) (no_parts_text given total)

-- the place p, of the kind k, stands in the way
unfoldable pub bar_text : ℕ → ℕ → ℕ → List ℕ
bar_text vars p k =
    tell "No total follows from the inputs: place " p
    ++ (bytes " is of kind " ++ (kind_text k ++ (bytes ".\n" ++ when (eqb vars 1) (bytes "Parts are taken of a total of 1.\n"))))

unfoldable pub totals_text : Given → Sums → List ℕ
totals_text (Some t) s = total_text true s.whole t s.shown
totals_text None s = cond (leb 64 s.bar) (total_text false s.whole s.amount s.shown) (bar_text s.vars s.bar s.kind)
