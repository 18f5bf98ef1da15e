-- The rows of v times the powers of m are the definition's.
use Rattle.std.specs.Prelude.{ℕ, zero, suc, ◌-◌, ◌*◌, ◌/◌, ◌%◌, ◌≤◌, ◌<◌, List, ◌≡◌, refl, get_or, Float}
use Rattle.std.proofs.Common.{sym, ap, ◌∙◌, arith, mul-zero}
use Rattle.std.specs.Float.{nan, binary64}
use Rattle.std.specs.Float.Ieee.{mul}
use Rattle.lists.specs.Four.{at}
use Rattle.lists.specs.Table.{table, table_same, table_at}
use Rattle.model.specs.Header.{count}
use Rattle.model.specs.Places.{strides, index}
use Rattle.model.specs.Limits.{cut_to}
use Rattle.model.specs.Poly.{block, read_at}
use Rattle.model.specs.Substitute.{powered}
use Rattle.product_linear.specs.Rows.{Rows}
use Rattle.product_linear.specs.Raise.{raise_rows_lem, raise-small, row_of, Raising}
use Rattle.substitution_powers.specs.Powers.{power, by_part, Whole}
use Rattle.substitution.specs.Room.{Cuts}

pos-right : (x y : ℕ) → 0 < x * y → 0 < y
pos-right x zero h = absurd (omega (arith, mul-zero x))
pos-right x (suc y) h = omega arith

module _ {la c : List ℕ} {v ma mo : ℕ} (t : Cuts la c v ma mo) where
  own : {z : ℕ} → z ≡ count c → Raising c v c z z
  own e = record { var = t.var; from = t.to; to = t.to; other = λ w h f. refl; one = omega arith; room = omega (arith, e); full = e }

  module _ {z s : ℕ} (ez : z ≡ count c) (es : s ≡ at (strides c) v) where
    rows-c : Rows s (at c v * s) (at c v * s) z z
    rows-c = raise_rows_lem (own ez) es refl refl

    pub parts_whole : Whole (at c v * s) z
    parts_whole = record { turns = rows-c.turns; full = rows-c.full; pos = rows-c.pos }

    pub rows_whole : Whole s (at c v * s)
    rows_whole = record { turns = at c v; full = refl; pos = pos-right (at c v) s rows-c.pos }

    pub rows-small : at c v * s ≤ 16777216
    rows-small = (raise-small (own ez) es refl refl).0

-- every place was loaded, and then scaled
pub powered-put : (limits la : List ℕ) (v : ℕ) (m : Float) (a : List Float) {c : List ℕ} {ma mo z s k : ℕ}
    {xs o : List Float} → Cuts la c v ma mo → c ≡ cut_to limits la → z ≡ count c → s ≡ at (strides c) v
    → xs ≡ table (count c) (λ p. read_at (block la a) (index c p)) → o ≡ table k (by_part m s (at c v * s) xs) → k ≡ z
    → (c ≡ (powered limits v (block la a) m).lengths) × (o ≡ (powered limits v (block la a) m).places)
unfolding powered
powered-put limits la v m a {c} {s = s} {xs = xs} t ec ez es ex eo ek = (
  ec,
  eo ∙ (ap (λ (n : ℕ). table n (by_part m s (at c v * s) xs)) (ek ∙ ez)
      ∙ (table_same _ _ (count c) (λ p h.
      let r : at (index c p) v ≡ p % (at c v * s) / s = row_of (own t refl) es refl refl p h in
      let x : get_or xs p nan ≡ read_at (block la a) (index c p) =
      ap (λ (l : List Float). get_or l p nan) ex
      ∙ table_at nan (λ p. read_at (block la a) (index c p)) (count c) p h in
      ap (λ (y : Float). mul binary64 y (power m (p % (at c v * s) / s))) x
      ∙ ap (λ (q : ℕ). mul binary64 (read_at (block la a) (index c p)) (power m q)) (sym r))
      ∙ (rw ec))),
)
