-- Document 02, W6: what a planner leans on. That the answer's running sum reaches q and no earlier one does stands in
-- readings_sums/specs/First.antt (`least-reaches`, `least-before`).
use Rattle.std.specs.Prelude.{ℕ, ◌+◌, ◌-◌, ◌≤◌, ◌<◌, Bool, true, false, List, ◌↔◌, ◌≡◌, refl, leb, ltb, length, get_or, Float}
use Rattle.std.proofs.lemmas.Bool.{false≢true}
use Rattle.std.proofs.Common.{sym, ap, ◌∙◌, arith, leb-true, leb-false, ltb-true, ltb-false, le-ltb}
use Rattle.std.specs.Float.{nan}
use Rattle.std.specs.Float.Ieee.{le}
use Rattle.lists.specs.Test.{decide}
use Rattle.model.specs.Header.{len}
use Rattle.model.specs.Word.{header_of}
use Rattle.model.specs.Refusals.{zero_f}
use Rattle.model.specs.Readings.{sum_to}
use Rattle.model.specs.Least.{least_of}
use Rattle.readings_sums.specs.First.{least-none, least-most, least-reaches, least-before}
use Rattle.laws_sums.specs.Order.{le-chain}
use Rattle.laws_sums.specs.Rising.{sums_rise}

module _ (a : List Float) (n : ℕ) where
  -- 11 exactly where no running sum reaches q
  pub none-reaches : (q : Float) → (least_of a n q ≡ n) ↔ ((j : ℕ) → j < n → le q (sum_to a (j + 1)) ≡ false)
  none-reaches q = (λ e j h. least-before a n q j (omega arith), λ f. least-none a n q f)

  -- a larger q never gives a smaller k
  pub larger_later : (q r : Float) → le q r ≡ true → least_of a n q ≤ least_of a n r
  larger_later q r h =
      decide (ltb (least_of a n r) n)
      (λ t.
      let reached : le r (sum_to a (least_of a n r + 1)) ≡ true = least-reaches a n r (ltb-true _ _ t) in
      decide (leb (least_of a n q) (least_of a n r))
      (λ u. leb-true _ _ u)
      (λ u.
      let before : le q (sum_to a (least_of a n r + 1)) ≡ false = least-before a n q (least_of a n r) (leb-false _ _ u) in
      absurd (false≢true (sym before ∙ le-chain q r (sum_to a (least_of a n r + 1)) h reached))))
      (λ t. omega (arith, ltb-false (least_of a n r) n t, least-most a n q))

  -- where no coefficient is negative or NaN, every later stored sum reaches q too
  pub later-reach : (q : Float) → ((j : ℕ) → j < n → le zero_f (get_or a j nan) ≡ true)
      → (j : ℕ) → least_of a n q ≤ j → j < n → le q (sum_to a (j + 1)) ≡ true
  later-reach q known j l h =
      let k : ℕ = least_of a n q in
      let reached : le q (sum_to a (k + 1)) ≡ true = least-reaches a n q (omega arith) in
      let e : k + 1 + (j - k) ≡ j + 1 = omega arith in
      ap (λ (m : ℕ). le q (sum_to a m)) (sym e) ∙ sums_rise a n known q (k + 1) (j - k) (omega arith) reached
