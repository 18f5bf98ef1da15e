-- REFERENCE 13. Document 02, W10: a cap on total degree, 0 for none, else 1 to 253. A coefficient whose indices add up
-- to the cap or more is +0.0. Definitions only; no header may have a cap yet, so each takes it as a number.
use Rattle.std.specs.Prelude.{ℕ, List, Bool, ◌||◌, cond, ltb, leb, eqb, get_or, pos, Float}
use Rattle.std.specs.Float.{nan, binary64}
use Rattle.std.specs.Float.Ieee.{to_bits}
use Rattle.lists.specs.Every.{every}
use Rattle.lists.specs.Table.{table}
use Rattle.model.specs.Header.{count}
use Rattle.model.specs.Places.{index}
use Rattle.model.specs.Refusals.{zero_f}
use Rattle.model.specs.Poly.{Block, block}
use Rattle.model_textbook.specs.Box.{degree}
use Rattle.model_textbook.specs.Textbook.{Series}

-- ---- '0 for none, else 1 to 253'

abbrev pub good_cap : ℕ → Bool
good_cap c = leb c 253

-- an index that the cap leaves: its numbers add up to less, or there is no cap
abbrev pub under_cap : ℕ → List ℕ → Bool
under_cap c k = eqb c 0 || ltb (degree k) c

-- ---- 'every operation, and every product or sum inside one, sets places at or past the result's cap to +0.0'

-- one place of a block with the lengths n
abbrev pub capped_at : ℕ → List ℕ → List Float → ℕ → Float
capped_at c n a p = cond (ltb (degree (index n p)) c) (get_or a p nan) zero_f

-- no cap leaves every place as it is
unfoldable pub capped_places : ℕ → List ℕ → List Float → List Float
capped_places c n a = cond (eqb c 0) a (table (count n) (capped_at c n a))

-- stored lengths stay as they are
abbrev pub capped : ℕ → Block → Block
capped c b = block b.lengths (capped_places c b.lengths b.places)

-- ---- '17 for an input with anything but +0.0 at or past its cap': by bits, over the stored places

abbrev pub clean_place : ℕ → List ℕ → List Float → ℕ → Bool
clean_place c n a p = under_cap c (index n p) || eqb (to_bits binary64 (get_or a p nan)) 0

unfoldable pub clean : ℕ → List ℕ → List Float → Bool
clean c n a = eqb c 0 || every (clean_place c n a) (count n) 0

-- ---- 'Demand 2's exact results are cut by box and cap': the textbook's truncation by total degree

unfoldable pub cut_at : ℕ → Series → Series
cut_at c A k = cond (under_cap c k) (A k) (pos 0)
