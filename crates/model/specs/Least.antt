-- REFERENCE 4.3. Document 02, W6: of one variable, the least k whose running sum is at least a wanted chance q, on the
-- full list of running sums. At least is `>=` of floats: -0.0 and 0.0 are equal, and a NaN reaches nothing and is
-- reached by nothing.
use Rattle.std.specs.Prelude.{Ok, Err, ℕ, suc, ◌+◌, List, [], ◌∷◌, cond, eqb, ltb, length, Float}
use Rattle.std.specs.Float.Ieee.{le}
use Rattle.lists.specs.Table.{table}
use Rattle.model.specs.declared.Refusal.{Refusal}
use Rattle.model.specs.Results.{CountReading}
use Rattle.model.specs.Header.{len}
use Rattle.model.specs.Word.{header_of}
use Rattle.model.specs.Refusals.{ask, no_refusal, is_none}
use Rattle.model.specs.Gates.{ask_word, full}
use Rattle.model.specs.Readings.{sum_to}

-- number k is the sum, from +0.0 upwards, of the coefficients 0 to k; n the stored length
unfoldable pub running_sums : List Float → ℕ → List Float
running_sums a n = table n (λ k. sum_to a (k + 1))

-- the first place of a list that holds at least q; its length where none does
unfoldable pub first_at_least : Float → List Float → ℕ
first_at_least q [] = 0
first_at_least q (x ∷ xs) = cond (le q x) 0 (suc (first_at_least q xs))

-- n where no running sum reaches q
unfoldable pub least_of : List Float → ℕ → Float → ℕ
least_of a n q = first_at_least q (running_sums a n)

unfoldable pub count_by : Refusal → ℕ → CountReading
count_by r k = cond (is_none r) (Ok k) (Err r)

-- w the header word, a the coefficients
module _ (w : ℕ) (a : List Float) (q : Float) where
  -- 3 for other than one variable, then 11 where no stored running sum reaches q
  unfoldable pub least_refusal : Refusal
  least_refusal =
      ask_word w
      (ask (full w (length a)) 2
      (ask (eqb (header_of w).vars 1) 3
      (ask (ltb (least_of a (len (header_of w) 0) q) (len (header_of w) 0)) 11
      no_refusal)))

  unfoldable pub least_answer : CountReading
  least_answer = count_by least_refusal (least_of a (len (header_of w) 0) q)
