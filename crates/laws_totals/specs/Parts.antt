-- REFERENCE 9.8: what is shown and what lies past the limits add up to the total; and the difference that `limits`
-- prints is exact.
use Rattle.std.specs.Prelude.{ℕ, ◌+◌, ◌^◌, ◌≤◌, ◌<◌, cond, List, ◌≡◌, ℤ, pos, nat_abs, neg_ℤ, ◌+ℤ◌, ◌-ℤ◌, Float}
use Rattle.std.proofs.Common.{sym, ap, ◌∙◌, subst}
use Rattle.std.proofs.Math.IntN.{+ℤ_idl, +ℤ_idr, +ℤ_comm}
use Rattle.std.specs.Float.Ieee.{sub}
use Rattle.std.specs.Float.{binary64}
use Rattle.model_recipes.specs.Recipe.{Recipe}
use Rattle.lists.specs.Test.{decide}
use Rattle.model.specs.Places.{inside}
use Rattle.model_textbook.specs.Sum.{add_z}
use Rattle.model_textbook.specs.Textbook.{Series, truncated, sum_of_all}
use Rattle.laws_whole.specs.BoxLaws.{box-same, box-plus}
use Rattle.laws_whole.specs.Int.{neg_+ℤ_cancel}
use Rattle.laws_whole.specs.Whole.{Whole}
use Rattle.laws_whole.specs.Exact.{whole_sub}
use Rattle.laws_full.specs.Unlimited.{Value}
use Rattle.laws_full.specs.Setting.{size}
use Rattle.laws_totals.specs.Totals.{total_of, exact_at, amount_at, bar_at, Given}

-- what lies past the limits, zero below them
unfoldable pub beyond : List ℕ → Series → Series
beyond limits A k = cond (inside limits k) (pos 0) (A k)

-- of a value, what limits show and what they leave out: each the sum over all indices
abbrev pub shown_of : List ℕ → Value → ℤ
shown_of limits v = sum_of_all v.lengths (truncated limits v.series)

abbrev pub past_of : List ℕ → Value → ℤ
past_of limits v = sum_of_all v.lengths (beyond limits v.series)

pub parts-total : (limits : List ℕ) (v : Value) → shown_of limits v +ℤ past_of limits v ≡ total_of v
unfolding sum_of_all truncated beyond
parts-total limits v =
    let n : List ℕ = v.lengths in
    let A : Series = v.series in
    sym (box-plus add_z (truncated limits A) (beyond limits A) n)
    ∙ box-same add_z _ A n (λ k u. decide (inside limits k) (λ t. rw t (+ℤ_idr (A k))) (λ t. rw t (+ℤ_idl (A k))))

-- the total less what is shown
pub past_is : (limits : List ℕ) (v : Value) → total_of v -ℤ shown_of limits v ≡ past_of limits v
past_is limits v =
    let s : ℤ = shown_of limits v in
    ap (λ (t : ℤ). t -ℤ s) (sym (parts-total limits v))
    ∙ (+ℤ_comm (s +ℤ past_of limits v) (neg_ℤ s) ∙ neg_+ℤ_cancel s (past_of limits v))
