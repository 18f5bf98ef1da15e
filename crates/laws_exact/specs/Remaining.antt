-- The variables left (document 01, port order 4, 'General': recursion on the first variable): n of four numbers from
-- the variable v on, as the box that they span.
use Rattle.std.specs.Prelude.{◌≡◌, refl, List, [], ◌∷◌, ℕ, zero, suc, ◌+◌, ◌*◌, ◌≤◌, ◌<◌}
use Rattle.std.proofs.Common.{ap, arith}
use Rattle.lists.specs.Four.{at, four}
use Rattle.model.specs.Header.{span}
use Rattle.model_textbook.specs.Box.{degree}
use Rattle.laws_whole.specs.Index.{InBox}
use Rattle.laws_whole.specs.PlaceLaws.{box_count}

-- n of the four numbers, from v on
unfoldable pub from : List ℕ → ℕ → ℕ → List ℕ
from l zero v = []
from l (suc n) v = at l v ∷ from l n (suc v)

pub from-four : (l : List ℕ) → from l 4 0 ≡ four (at l)
unfolding from
from-four l = refl

pub from-count : (l : List ℕ) (n v : ℕ) → box_count (from l n v) ≡ span l n v
unfolding from box_count span
from-count l zero v = refl
from-count l (suc n) v = ap (λ (x : ℕ). at l v * x) (from-count l n (suc v))

pub from_in-box : (k l : List ℕ) (n v : ℕ) → ((w : ℕ) → v ≤ w → w < v + n → at k w < at l w) → InBox (from k n v) (from l n v)
unfolding from
from_in-box k l zero v h = InBox.none
from_in-box k l (suc n) v h = InBox.more (h v (omega arith) (omega arith)) (from_in-box k l n (suc v) (λ w p q. h w (omega arith) (omega arith)))

pub from-degree : (k : List ℕ) (n v : ℕ) → ((w : ℕ) → v ≤ w → w < v + n → at k w ≡ 0) → degree (from k n v) ≡ 0
unfolding from degree
from-degree k zero v h = refl
from-degree k (suc n) v h = omega (arith, h v (omega arith) (omega arith), from-degree k n (suc v) (λ w p q. h w (omega arith) (omega arith)))
